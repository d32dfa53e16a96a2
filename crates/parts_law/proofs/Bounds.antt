-- Parts that are apart bound a part of the plane each, and rings of directed edges that do are grounded.
use Rattle.std.proofs.Common.{◌⊎◌, inl, inr, List, sym, subst}
use Rattle.std.specs.Prelude.{Contains}
use Rattle.geom.specs.declared.point.Pt.{Pt}
use Rattle.geom.specs.declared.edge.Edge.{Edge}
use Rattle.geom.specs.declared.directed.DirectedEdge.{DirectedEdge}
use Rattle.geom.specs.Order.{IsBefore}
use Rattle.geom.specs.Directed.{from_to, RunsAlong}
use Rattle.geom.specs.Rings.{IsNext, Closes}
use Rattle.geom.specs.Holes.{left_of, IsNearestBelow, HasGroundedRings}
use Rattle.geom.proofs.Edges.{before_by_cases}
use Rattle.geom.proofs.OneOwner.{one_nearest}
use Rattle.parts_law.specs.Apart.{AreApart}
use Rattle.parts_law.specs.Bounds.{IsHoleCorner, IsBoundBelow, AreBounds}
use Rattle.parts_law.proofs.HoleCorners.{hole_corner}
use Rattle.parts_law.proofs.NearestBelow.{columns, nearest_in_part}
use Rattle.parts_law.proofs.Parts.{among, goes_in_part, neighbour_of_part, next_in_part, next_of_part}

module _ (directed these others : List DirectedEdge) (bounds : AreBounds directed) (apart : AreApart directed these others) where
  in_all : (d : DirectedEdge) → Contains these d → Contains directed d
  in_all = among directed these others apart.are_others

  turns : (u v : Pt) → Contains these (from_to u v) → (w : Pt) × Contains these (from_to v w) × IsNext these u v w
  turns u v i = let t = bounds.closes.turns u v (in_all (from_to u v) i) in
      (t.0, goes_in_part directed these others apart u v t.0 i t.1, next_in_part directed these others apart u v t.0 i t.2)

  closes : Closes these
  closes = record {
    are_directed = record {
      ascending = apart.ascending;
      one_way = λ u v i j. bounds.closes.are_directed.one_way u v (in_all (from_to u v) i) (in_all (from_to v u) j);
    };
    spread = λ v a b h k. bounds.closes.spread v a b (neighbour_of_part directed these others apart v a h)
        (neighbour_of_part directed these others apart v b k);
    turns = turns;
  }

  corner_of_part : (u v w : Pt) → IsHoleCorner these u v w → IsHoleCorner directed u v w
  corner_of_part u v w c = record {
    comes = in_all (from_to u v) c.comes;
    goes = in_all (from_to v w) c.goes;
    next = next_of_part directed these others apart u v w c.comes c.next;
    comes_back = c.comes_back;
    goes_right = c.goes_right;
    turns = c.turns;
  }

  -- below such a corner of the part, the nearest edge of all is in the part
  bound_of_part : (u v w : Pt) → IsHoleCorner these u v w → (d : DirectedEdge) × IsBoundBelow directed v d × IsBoundBelow these v d
  bound_of_part u v w c =
      let b = bounds.below u v w (corner_of_part u v w c) in
      let i = (apart.holes u v w (corner_of_part u v w c) b.0 b.1.nearest).0 c.goes in
      (b.0, b.1, record { nearest = nearest_in_part directed these in_all (left_of v) b.0 i b.1.nearest; goes_right = b.1.goes_right })

  pub part_is_bounds : AreBounds these
  part_is_bounds = record {
    closes = closes;
    noded = λ c d e f i j. bounds.noded c d e f (in_all c i) (in_all d j);
    below = λ u v w c. let b = bound_of_part u v w c in (b.0, b.2);
  }

  -- so the nearest edge of the part is the nearest one of all
  pub nearest_of_part : (u v w : Pt) → IsHoleCorner these u v w → (d : DirectedEdge) → IsNearestBelow these (left_of v) d
      → IsNearestBelow directed (left_of v) d
  nearest_of_part u v w c d n =
      let b = bound_of_part u v w c in
      subst (IsNearestBelow directed (left_of v)) (one_nearest these closes.are_directed part_is_bounds.noded v b.0 d b.2.nearest n) b.1.nearest

-- ---- grounded rings
an_end_before : (d : DirectedEdge) (e : Edge) (v : Pt) → RunsAlong d e → IsBefore e.p v → IsBefore d.from v ⊎ IsBefore d.to v
an_end_before d e v (inl q) h = inl (subst (λ (c : DirectedEdge). IsBefore c.from v) (sym q) h)
an_end_before d e v (inr q) h = inr (subst (λ (c : DirectedEdge). IsBefore c.to v) (sym q) h)

pub bounds_are_grounded : (directed : List DirectedEdge) → AreBounds directed → HasGroundedRings directed
bounds_are_grounded directed bounds rings are hole i h v l =
    let c = hole_corner directed bounds.closes rings are hole i h v l in
    let b = bounds.below c.u v c.w c.is in
    let n = b.1.nearest in
    (b.0, n, an_end_before b.0 n.edge v n.runs (before_by_cases n.edge.p v (inl (columns n.edge v n.below.over).0)))
