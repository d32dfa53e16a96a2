use Rattle.std.proofs.Common.{List, filter, sym, ◌∙◌, subst}
use Rattle.std.specs.Prelude.{IfOk}
use Rattle.std.proofs.lemmas.Result.{IfOk-weaker}
use Rattle.geom.specs.declared.edge.Counted.{Counted}
use Rattle.geom.specs.Directed.{AreResultEdges}
use Rattle.points_law.specs.Law.{AreLayers}
use Rattle.label_sweep.specs.Changing.{changes}
use Rattle.label_sweep.proofs.ChangingEdges.{changing_are_layers, changing_bound}
use Rattle.label_sweep.proofs.directed.layer_labels_in_parts.Goals as goal

pub swept_in_parts-requires-2-after_bounds : goal.swept_in_parts-requires-2-after_bounds
swept_in_parts-requires-2-after_bounds g c κs within = subst AreLayers (sym (c.deref.ensures.value ∙ c.in_ok-edges.ensures)) (changing_are_layers c.args.counted.now c.requires)

pub returns : goal.returns
returns g c =
    let op = c.args.op in
    let cs = c.args.counted.now in
    let result = c.swept_in_parts-2.result in
    IfOk-weaker result (AreResultEdges op (filter changes cs)) (AreResultEdges op cs) (changing_bound op cs c.requires)
    (subst (λ (es : List Counted). IfOk result (AreResultEdges op es)) (c.deref.ensures.value ∙ c.in_ok-edges.ensures) c.swept_in_parts-2.ensures)
