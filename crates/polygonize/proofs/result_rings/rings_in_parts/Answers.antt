use Rattle.std.proofs.Common.{List, map, rules, subst, sym}
use Rattle.std.specs.Prelude.{All, IfOk}
use Rattle.geom.specs.declared.directed.DirectedEdge.{DirectedEdge}
use Rattle.geom.specs.Directed.{AreDirected}
use Rattle.geom.specs.Holes.{HasGroundedRings}
use Rattle.geom.specs.NodedEdges.{AreNodedEdges}
use Rattle.polygonize.specs.Cycle.{IsOneToOne}
use Rattle.polygonize.specs.Written.{IsSound}
use Rattle.polygonize.specs.Told.{AreToldRings, ring_told}
use Rattle.polygonize.proofs.Told.{are_told, sound}
use Rattle.polygonize.proofs.TextOrder.PlacedRings.{sorted_by}
use Rattle.polygonize.proofs.TextOrder.Places.{place_cmp}
use Rattle.polygonize.proofs.result_rings.rings_in_parts.Goals as goal

pub invariant_of-result : goal.invariant_of-result
invariant_of-result g c =
    let vs = c.sort_unstable_by_key.new.self.items in
    subst (λ (ds : List DirectedEdge). All (λ w. IsSound ds w.ring) vs) c.edges.ensures.value
    (sound c.edges.result.now c.in_ok-written.written.items vs c.in_ok-written.ensures.sound c.sort_unstable_by_key.ensures.permutation)

pub returns : goal.returns
returns g c = λ noded grounded.
    let edges = c.edges.result.now in
    let same = c.edges.ensures.value in
    let noded_edges = subst AreNodedEdges (sym same) noded in
    let grounded_edges = subst HasGroundedRings (sym same) grounded in
    let ws = c.in_ok-written.written.items in
    let vs = c.sort_unstable_by_key.new.self.items in
    let sorted = sorted_by (λ w. w.place) place_cmp vs c.sort_unstable_by_key.ensures.sorted (λ a r q k. search rules) in
    subst (λ (ds : List DirectedEdge). AreToldRings ds (map (ring_told ds) vs)) same
    (are_told edges ws vs c.in_ok-written.ensures.sound c.sort_unstable_by_key.ensures.permutation (subst AreDirected (sym same) c.edges.ensures.directed) noded_edges (c.in_ok-written.ensures.written noded_edges grounded_edges) c.in_ok-written.ensures.edges sorted)

pub written_rings_in_parts-requires-clause-one_to_one : goal.written_rings_in_parts-requires-clause-one_to_one
written_rings_in_parts-requires-clause-one_to_one g c = λ κs l.
    subst IsOneToOne (sym c.deref.ensures.value) (subst (λ r. IfOk r (λ next. IsOneToOne next.items)) c.in_ok-next.was c.next_and_numbers-next.ensures.one_to_one)
