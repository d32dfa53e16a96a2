use Rattle.std.proofs.Common.{◌≡◌, ◌∙◌, List, ap, rules, sym, subst, to_z, of_z, ℕ, ◌++◌}
use Rattle.std.specs.Int.{w128}
use Rattle.geom.specs.declared.directed.DirectedEdge.{DirectedEdge}
use Rattle.geom.specs.Canonical.{ArePolygons, HaveEachEdge}
use Rattle.geom.specs.Holes.{HasGroundedRings}
use Rattle.geom.specs.NodedEdges.{AreNodedEdges}
use Rattle.cover_law.specs.Areas.{twice_area}
use Rattle.cover_sets.specs.Sets.{set_of}
use Rattle.rows.specs.RowSets.{edges_at}
use Rattle.rows.proofs.Areas.{polygons_area}
use Rattle.rows.proofs.parts.row_of_set.Goals as goal

pub returns : goal.returns
returns g c =
    let ds = edges_at c.args.edges.now c.args.row_set in
    let made = c.in_ok-polygons.polygons.items in
    let same : c.deref-2.result.now ≡ ds = c.deref-2.ensures.value ∙ c.in_ok-put_edges.ensures in
    let each : HaveEachEdge ds made = subst (λ (xs : List DirectedEdge). HaveEachEdge xs made) same c.in_ok-polygons.ensures.each_edge in
    let back : to_z w128 (of_z w128 c.twice_area-twice_area.result) ≡ c.twice_area-twice_area.result = search rules in
    record {
      set_is = c.in_ok-push_features.ensures ∙ ap (λ (xs : List ℕ). xs ++ set_of c.args.sets.now c.args.row_set.set) c.in_ok-features.ensures.items;
      are_polygons = subst (λ (xs : List DirectedEdge). AreNodedEdges xs → HasGroundedRings xs → ArePolygons xs made) same c.in_ok-polygons.ensures.polygons;
      each_edge = each;
      area_is = back ∙ c.twice_area-twice_area.ensures ∙ ap twice_area (c.deref.ensures.value ∙ c.in_ok-put_edges.ensures) ∙ sym (polygons_area ds made c.requires.closes.are_directed.ascending each);
    }
