-- The directed edges of a result bound it: the nearest edge below the corner of a hole goes to the right.
use Rattle.std.proofs.Common.{◌≡◌, inl, inr, Bool, true, false, not, List, refl, sym, ap, ◌∙◌, arith, subst, ⊎_elim}
use Rattle.std.specs.List.{Contains}
use Rattle.std.specs.Prelude.{◌&&◌, ◌↔◌}
use lib.IntN.{ℤ, pos, ◌*ℤ◌, neg_ℤ}
use lib.Signed.{◌<ℤ◌, lt_z, le_z}
use borrow.Author.Differences.{ints}
use Rattle.geom.specs.declared.op.Op.{Op}
use Rattle.geom.specs.declared.point.Pt.{Pt}
use Rattle.geom.specs.declared.edge.Edge.{Edge}
use Rattle.geom.specs.declared.edge.Counted.{Counted}
use Rattle.geom.specs.declared.directed.DirectedEdge.{DirectedEdge}
use Rattle.geom.specs.Determinant.{side}
use Rattle.geom.specs.Directed.{from_to, RunsAlong, IsResultEdge, AreResultEdges}
use Rattle.geom.specs.Holes.{LiesBelow, left_of}
use Rattle.geom.specs.Order.{IsBefore}
use Rattle.geom.specs.Parity as geom
use Rattle.geom.specs.Pixel.{Point}
use Rattle.geom.specs.ResultEdges.{holds_at, left_side, right_side}
use Rattle.geom.specs.Rounded.{edges_of}
use Rattle.geom.proofs.Edges.{before_strict}
use Rattle.geom.proofs.Lists.{In, contains_in, in_contains}
use Rattle.geom.proofs.OneRing.{opposite}
use Rattle.points_law.specs.Law.{AreLayers}
use Rattle.points_law.proofs.Choices.{Even, covers, counted, parity, left}
use Rattle.points_law.proofs.ResultOfChoices.{Edges}
use Rattle.points_law.proofs.Even.{clash}
use Rattle.points_law.proofs.Meet.{slope}
use Rattle.points_law.proofs.Vertex.{Vertex}
use Rattle.points_law.proofs.Counts.{right_turned}
use Rattle.points_law.proofs.Next.{NoneBetween}
use Rattle.points_law.proofs.HoleVertex.{NoneFromLeft, hole_left, hole_inside}
use Rattle.points_law.proofs.Layers.{and_is, in_result_of, edges_of_layers, result_is_even, holds_where_odd}
use Rattle.points_law.proofs.Spokes.{Joins, spoke, joins_ends, one_edge, comes_in, slope_out, between_of}
use Rattle.points_law.proofs.FirstMet.{none_between}
use Rattle.points_law.proofs.Directions.{Bounds, Arrival, Link, arrives, link, neighbour}
use Rattle.points_law.proofs.EdgeBelow.{NearestOf, nearest_below}
use Rattle.points_law.proofs.RoundVertex as round
use Rattle.points_law.proofs.OwnersOfRings.{noded_result}
use Rattle.parts_law.specs.Bounds.{IsHoleCorner, IsBoundBelow}
use Rattle.parts_law.specs.Law.{ResultEdgesAreBounds}
use Rattle.parts_law.proofs.AboveNearest.{upper_side}

module _ (op : Op) (cs : List Counted) (h : AreLayers cs) (directed : List DirectedEdge) (R : AreResultEdges op cs directed) where
  abbrev es : List Edge
  es = edges_of cs

  abbrev r : Edge → Bool
  r = in_result_of op cs h

  all_edges : Edges (edges_of cs)
  all_edges = edges_of_layers op cs h

  even : Even (in_result_of op cs h) (edges_of cs)
  even = result_is_even op cs h

  -- ---- the corner of a hole
  module _ (u v w : Pt) (k : IsHoleCorner directed u v w) where
    nearest : NearestOf es r v es
    nearest = round.nearest op cs h directed R u v w k.comes k.next k.comes_back k.goes_right k.turns

    odd_above : parity r es (left nearest.edge) ≡ true
    odd_above =
        let at_vertex = round.at_vertex op cs h directed R u v w k.comes k.next k.comes_back k.goes_right k.turns in
        let from_left = round.from_left op cs h directed R u v w k.comes k.next k.comes_back k.goes_right k.turns in
        upper_side es all_edges r v at_vertex from_left nearest even ∙ round.odd_there op cs h directed R u v w k.comes k.next k.comes_back k.goes_right k.turns

  bound_by : (v : Pt) (m : NearestOf es r v es) → Contains directed (from_to m.edge.p m.edge.q) → IsBoundBelow directed v (from_to m.edge.p m.edge.q)
  bound_by v m c = record { nearest = round.below op cs h directed R v m (from_to m.edge.p m.edge.q) c (inl refl); goes_right = m.edge.ordered }

  -- with the result above it, it goes to the right
  rightward : (e : Edge) → parity r es (left e) ≡ true → ¬ (Contains directed (from_to e.q e.p))
  rightward e odd c = clash (parity r es (left e)) (sym (right_turned r es e.p e.q) ∙ ((round.exact op cs h directed R (from_to e.q e.p)).0 c).outside) odd

  goes_along : (e : Edge) → In e es → r e ≡ true → parity r es (left e) ≡ true → Contains directed (from_to e.p e.q)
  goes_along e i re odd = ⊎_elim (λ c. c) (λ c. absurd (rightward e odd c))
      (neighbour es all_edges r even directed (round.exact op cs h directed R) e.p e.q e i (inl (refl, refl)) re)

  bound_below : (u v w : Pt) → IsHoleCorner directed u v w → (d : DirectedEdge) × IsBoundBelow directed v d
  bound_below u v w k = let m = nearest u v w k in (from_to m.edge.p m.edge.q, bound_by v m (goes_along m.edge m.inside m.chosen (odd_above u v w k)))

pub result_edges_are_bounds : ResultEdgesAreBounds
result_edges_are_bounds op counted directed h r = record {
  closes = round.closes op counted h directed r;
  noded = noded_result op counted directed h r;
  below = bound_below op counted h directed r;
}
