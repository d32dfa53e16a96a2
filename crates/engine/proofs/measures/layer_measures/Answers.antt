use Rattle.std.proofs.Common.{◌≡◌, ◌∙◌, of_z, rules, to_z, w64, List, ap, subst, sym}
use Rattle.geom.specs.declared.directed.DirectedEdge.{DirectedEdge}
use Rattle.geom.specs.declared.edge.Counted.{Counted}
use Rattle.geom.specs.declared.op.Op.TheVariants.{Union}
use Rattle.geom.specs.Directed.{AreResultEdges}
use Rattle.geom.specs.Limit.{AreInLimit}
use Rattle.points_law.specs.Law.{AreLayers}
use Rattle.std.specs.Prelude.{All}
use Rattle.cover_law.specs.Areas.{twice_area}
use Rattle.engine.proofs.Measuring.{alone_in_limit, layer_alone, layer_measured}
use Rattle.engine.proofs.measures.layer_measures.Goals as goal

pub layer_labels-requires : goal.layer_labels-requires
layer_labels-requires g c = subst (λ (cs : List Counted). AreLayers cs) (sym (c.deref.ensures.value ∙ c.in_ok-alone.ensures)) (layer_alone c.args.layer c.args.counted.now c.requires)

pub area_along-requires : goal.area_along-requires
area_along-requires g c =
    let bound = subst (λ (cs : List Counted). AreResultEdges Union cs c.in_ok-directed.directed) (c.deref.ensures.value ∙ c.in_ok-alone.ensures) c.in_ok-directed.ensures in
    subst (λ (ds : List DirectedEdge). All (λ d. AreInLimit d.from d.to) ds) (sym c.edges.ensures.value) (alone_in_limit c.args.layer c.args.counted.now c.in_ok-directed.directed c.requires bound)

pub returns : goal.returns
returns g c =
    let bound = subst (λ (cs : List Counted). AreResultEdges Union cs c.in_ok-directed.directed) (c.deref.ensures.value ∙ c.in_ok-alone.ensures) c.in_ok-directed.ensures in
    let value : to_z w64 (of_z w64 c.in_ok-twice_area.twice_area) ≡ c.in_ok-twice_area.twice_area = search rules in
    layer_measured c.args.layer c.args.counted.now c.in_ok-directed.directed _ bound (value ∙ c.in_ok-twice_area.ensures ∙ ap twice_area c.edges.ensures.value) c.in_ok-steps.ensures
