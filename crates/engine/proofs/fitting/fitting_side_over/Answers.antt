use Rattle.std.proofs.Common.{List, map, subst, sym, ℕ}
use Rattle.engine.proofs.FitsOver.{fitting_over, fitting_refused, never_too_fine_over}
use Rattle.layers.proofs.InLayers.{text_at, text_next, texts_whole}
use Rattle.layers.specs.Refusals.{greatest_text}
use Rattle.layers.proofs.ReadLaws.{AreBoxed, boxed_more}
use Rattle.engine.proofs.fitting.fitting_side_over.Goals as goal

pub returns-in-Err-clause-side : goal.returns-in-Err-clause-side
returns-in-Err-clause-side c =
    fitting_refused (map (λ t. t.now) c.args.layers.now) c.loop-text.text-index _ c.in-Err.field-0 (text_at c.args.layers.now c.loop-text.text-index _ c.loop-text-test.true) c.in-Err.ensures.answer

pub returns-in-Err-clause-fits : goal.returns-in-Err-clause-fits
returns-in-Err-clause-fits c = never_too_fine_over (map (λ t. t.now) c.args.layers.now) 262_144 (returns-in-Err-clause-side c)

pub loop-text-preserved : goal.loop-text-preserved
loop-text-preserved c =
    let bounds = c.joint_bounds-bounds.ensures in
    subst (λ (ts : List (List ℕ)). AreBoxed greatest_text ts c.joint_bounds-bounds.result) (sym (text_next c.args.layers.now c.loop-text.text-index _ c.loop-text-test.true))
    (boxed_more greatest_text _ _ c.loop-text.bounds c.joint_bounds-bounds.result c.in-Ok.outline c.loop-text.invariant c.in-Ok.ensures.answer bounds.joint (bounds.in_limit c.loop-text.invariant.in_limit c.in-Ok.ensures.in_limit))

pub returns-clause-side : goal.returns-clause-side
returns-clause-side c =
    fitting_over (map (λ t. t.now) c.args.layers.now) c.loop-text.bounds c.default_side.result
    (subst (λ (ts : List (List ℕ)). AreBoxed greatest_text ts c.loop-text.bounds) (texts_whole c.args.layers.now c.loop-text.text-index c.loop-text-test.false) c.loop-text.invariant) c.default_side.ensures

pub returns-clause-fits : goal.returns-clause-fits
returns-clause-fits c = never_too_fine_over (map (λ t. t.now) c.args.layers.now) c.default_side.result (returns-clause-side c)
