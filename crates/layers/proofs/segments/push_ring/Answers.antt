use Rattle.std.proofs.Common.{◌≡◌, ◌++◌, ◌-◌, ◌∷◌, [], List, length, take, get_or, subst, sym, ap, arith, ◌∙◌}
use Rattle.std.proofs.Math.IntN.{pos}
use Rattle.std.proofs.lemmas.List.{take_all}
use Rattle.std.proofs.lemmas.Result.{on_ok_weaker}
use Rattle.geom.specs.declared.point.Pt.{Pt}
use Rattle.geom.specs.Segments.{neighbours, ring_steps}
use Rattle.layers.specs.Segments.{HasSteps}
use Rattle.layers.proofs.RingSteps.{more_steps, next_step, closing_step}
use Rattle.layers.proofs.segments.push_ring.Goals as goal

abbrev blank : Pt
blank = record { x = pos 0; y = pos 0 }

pub loop-end-preserved : goal.loop-end-preserved
loop-end-preserved g c =
    let ps = c.args.points.now in
    let i = c.loop-end.end in
    let steps : List (Pt × Pt) = (get_or ps (i - 1) blank, get_or ps i blank) ∷ [] in
    record {
      added = subst (λ (s : List (Pt × Pt)). HasSteps c.args.layer s c.args.segments.now.items c.push_step.new.segments.items) (sym (next_step ps i blank (omega arith) (omega arith)))
          (more_steps c.args.layer (neighbours (take i ps)) steps c.args.segments.now.items c.loop-end.segments.items c.push_step.new.segments.items c.loop-end.invariant.added c.in_ok-push_step.ensures.added);
      in_limit = c.in_ok-push_step.ensures.in_limit;
    }

pub returns-clause-added : goal.returns-clause-added
returns-clause-added g c =
    let ps = c.args.points.now in
    let last : List (Pt × Pt) = (get_or ps (length ps - 1) blank, get_or ps 0 blank) ∷ [] in
    let all : neighbours (take c.loop-end.end ps) ++ last ≡ ring_steps ps = ap (λ (qs : List Pt). neighbours qs ++ last) (take_all c.loop-end.end ps c.loop-end-test.false) ∙ sym (closing_step ps blank c.requires.some) in
    on_ok_weaker c.push_step-2.result
    (λ added. subst (λ (s : List (Pt × Pt)). HasSteps c.args.layer s c.args.segments.now.items c.push_step-2.new.segments.items) all
    (more_steps c.args.layer (neighbours (take c.loop-end.end ps)) last c.args.segments.now.items c.loop-end.segments.items c.push_step-2.new.segments.items c.loop-end.invariant.added added))
    c.push_step-2.ensures.added
