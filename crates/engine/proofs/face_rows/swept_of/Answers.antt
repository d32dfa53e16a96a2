use Rattle.std.proofs.Common.{◌≡◌, ◌∙◌, List, subst, sym, map, ap}
use Rattle.std.proofs.lemmas.Result.{IfOk-weaker}
use Rattle.geom.specs.declared.edge.Counted.{Counted}
use Rattle.geom.specs.declared.edge.Edge.{Edge}
use Rattle.geom.specs.Rounded.{edges_of}
use Rattle.points_law.specs.Law.{AreLayers}
use Rattle.label_sweep.specs.Swept.{AreSwept}
use Rattle.engine.specs.FaceRows.{uncounted}
use Rattle.engine.proofs.Uncounted.{uncounted_edges, uncounted_layers}
use Rattle.engine.proofs.face_rows.swept_of.Goals as goal

pub swept_edges_in_parts-requires-after_bounds : goal.swept_edges_in_parts-requires-after_bounds
swept_edges_in_parts-requires-after_bounds g c κs within =
    let same : c.deref.result.now ≡ map uncounted c.args.borders.now = c.deref.ensures.value ∙ c.in_ok-counted.ensures in
    subst (λ (cs : List Counted). AreLayers cs) (sym same) (uncounted_layers c.args.features.now c.args.borders.now c.requires)

pub returns : goal.returns
returns g c =
    let same : c.deref.result.now ≡ map uncounted c.args.borders.now = c.deref.ensures.value ∙ c.in_ok-counted.ensures in
    IfOk-weaker c.swept_edges_in_parts.result _ _
    (λ v h. subst (λ (es : List Edge). AreSwept es v.items) (ap (λ (cs : List Counted). edges_of cs) same ∙ uncounted_edges c.args.features.now c.args.borders.now) h)
    c.swept_edges_in_parts.ensures
