use Rattle.std.proofs.Common.{◌++◌, [], ◌∷◌, cond, List, take, sym, ap, ◌∙◌}
use Rattle.std.specs.List.{filter}
use Rattle.std.proofs.lemmas.List.Elements.{filter_more}
use Rattle.geom.specs.declared.edge.Counted.{Counted}
use Rattle.label_sweep.specs.Changing.{changes}
use Rattle.label_sweep.proofs.changing.changing_edges.Goals as goal

pub loop-one-preserved : goal.loop-one-preserved
loop-one-preserved g c =
    let cs = c.args.counted.now in
    let n = c.loop-one.one-index in
    let one = c.one-item.result in
    c.in_ok-add_changing.ensures ∙ ap (λ (t : List Counted). t ++ cond (changes one) (one ∷ []) []) c.loop-one.invariant
    ∙ ap (λ (t : Counted). filter changes (take n cs) ++ cond (changes t) (t ∷ []) []) c.one-item.is
    ∙ sym (filter_more changes cs n one c.loop-one-test.true)
