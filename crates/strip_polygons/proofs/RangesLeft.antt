-- The directed edges that are left when the closed ones of a range of strips are gone.
use Rattle.std.proofs.Common.{inl, inr, ℕ, List, ⊎_elim}
use Rattle.std.specs.Prelude.{◌↔◌, ℤ, Contains}
use Rattle.geom.specs.declared.directed.DirectedEdge.{DirectedEdge}
use Rattle.geom.specs.Canonical.{ArePolygons, Shape}
use Rattle.geom.specs.Directed.{AreDirected, IsDirectedBefore}
use Rattle.geom.specs.NodedEdges.{AreNodedEdges}
use Rattle.geom.proofs.Lists.{In, contains_in, in_contains}
use Rattle.parts_law.specs.Bounds.{AreBounds}
use Rattle.parts_law.specs.Law.{AreClosedIn}
use Rattle.parts_law.specs.Ties.{AreKnown, AreOthers, AreParted, BeginsFrom, GoesOver, HasColumn, IsOpen}
use Rattle.parts_law.specs.Ties.LeadsTo.{here}
use Rattle.parts_law.proofs.Bounds.{part_is_bounds}
use Rattle.parts_law.proofs.ClosedApart.{closed_apart}
use Rattle.parts_law.proofs.Membership.{edge_in_or_not}
use Rattle.parts_law.proofs.Parts.{others_are_apart}
use Rattle.parts_law.proofs.Polygons.{polygons_together}
use Rattle.strip_polygons.specs.Ranges.{IsRangeTold}
use Rattle.strip_polygons.specs.Strips.{AreCompletedBy}
use Rattle.strip_polygons.proofs.StripsLeft.{led}
use Rattle.strip_polygons.proofs.StripsLists.{Kept, kept}

-- What is left of the directed edges behind a range: all that go over its borders, and of those that begin there the open ones, from which ties lead
-- over a border. With the polygons that were found, its polygons are those of all edges; each one that was found is a polygon of closed edges.
pub record AreBehind (cuts : List ℤ) (from past : ℕ) (directed open_ones : List DirectedEdge) (found : List Shape) : Type 0 where
  pub left : List DirectedEdge
  pub bounds : AreBounds left
  pub within : (d : DirectedEdge) → Contains left d → Contains directed d
  pub over : (d : DirectedEdge) → Contains directed d → GoesOver cuts from past d → Contains left d
  pub open_is : (d : DirectedEdge) → Contains open_ones d ↔ (Contains left d × HasColumn cuts from past d × BeginsFrom cuts from d)
  pub open_leads : (d : DirectedEdge) → Contains open_ones d → (e : DirectedEdge) × GoesOver cuts from past e
  pub completed : AreCompletedBy directed found left
  pub each : (p : Shape) → Contains found p → (closed : List DirectedEdge) × (part : List Shape) × ArePolygons closed part × Contains part p

-- ---- of the edges that a range knows, some are closed and some open
module _ (cuts : List ℤ) (from past : ℕ) (directed known : List DirectedEdge) (bounds : AreBounds directed)
    (k : AreKnown cuts from past directed known) where
  known_in : (d : DirectedEdge) → Contains known d → Contains directed d
  known_in d i = ((k.exact d).0 i).0

  -- they meet only at ends, and none stands in both directions
  known_noded : AreNodedEdges known
  known_noded c d e f i j r s n = bounds.noded c d e f (known_in c i) (known_in d j) r s n

  known_directed : AreDirected known
  known_directed = record { ascending = k.ascending; one_way = λ u v i j. bounds.closes.are_directed.one_way u v (known_in _ i) (known_in _ j) }

  module _ (closed open_ones : List DirectedEdge) (p : AreParted cuts from past known closed open_ones) where
    abbrev not_closed : Kept IsDirectedBefore (λ d. ¬ (Contains closed d)) (Contains closed) directed
    not_closed = kept IsDirectedBefore (λ d. ¬ (Contains closed d)) (Contains closed) directed bounds.closes.are_directed.ascending
        (λ d i. ⊎_elim (λ (c : Contains closed d). inr c) (λ (n : ¬ (Contains closed d)). inl n) (edge_in_or_not closed d))

    -- the edges that are not closed
    abbrev others : List DirectedEdge
    others = not_closed.list

    other_is : (d : DirectedEdge) → Contains others d → Contains directed d × (¬ (Contains closed d))
    other_is d i = let o = not_closed.only d (contains_in not_closed.list d i) in (in_contains directed d o.0, o.1)

    is_other : (d : DirectedEdge) → Contains directed d → ¬ (Contains closed d) → Contains others d
    is_other d i n = ⊎_elim (λ (o : In d not_closed.list). in_contains not_closed.list d o) (λ (c : Contains closed d). absurd (n c))
        (not_closed.each d (contains_in directed d i))

    are_others : AreOthers directed closed others
    are_others = record {
      ascending = not_closed.ascending;
      either = λ d. (
        (λ i. ⊎_elim (λ (c : Contains closed d). inl c) (λ (n : ¬ (Contains closed d)). inr (is_other d i n)) (edge_in_or_not closed d)),
        (λ o. ⊎_elim (λ (c : Contains closed d). known_in d ((p.closed_is d).0 c).0) (λ (i : Contains others d). (other_is d i).0) o),
      );
      not_both = λ d c o. (other_is d o).1 c;
    }

    closed_in : AreClosedIn cuts from past directed closed others
    closed_in = record {
      bounds = bounds;
      known = known;
      are_known = k;
      open_ones = open_ones;
      are_parted = p;
      are_others = are_others;
    }

    -- what is closed bounds a part of the plane, and so do the others
    both_bounds : AreBounds closed × AreBounds others
    both_bounds =
        let a = closed_apart cuts from past directed closed others closed_in in (
          part_is_bounds directed closed others bounds a,
          part_is_bounds directed others closed bounds (others_are_apart directed closed others a),
        )

    -- an edge that goes over a border is not closed
    over_is_other : (d : DirectedEdge) → Contains directed d → GoesOver cuts from past d → Contains others d
    over_is_other d i g = is_other d i (λ (c : Contains closed d). let h = (p.closed_is d).0 c in h.1 (here h.0 g))

    -- one of the others that begins there is open
    other_is_open : (d : DirectedEdge) → Contains others d → HasColumn cuts from past d → BeginsFrom cuts from d → Contains open_ones d
    other_is_open d i h b = ⊎_elim (λ (o : Contains open_ones d). o) (λ (n : ¬ (Contains open_ones d)). absurd (o.1 (closed_else n)))
        (edge_in_or_not open_ones d)
      where
        o : Contains directed d × (¬ (Contains closed d))
        o = other_is d i

        is_known : Contains known d
        is_known = (k.exact d).1 (o.0, h)

        closed_else : ¬ (Contains open_ones d) → Contains closed d
        closed_else n = (p.closed_is d).1 (is_known, (λ (q : IsOpen cuts from past known d). n ((p.open_is d).1 (is_known, q, b))))

    open_is_other : (d : DirectedEdge) → Contains open_ones d → Contains others d × HasColumn cuts from past d × BeginsFrom cuts from d
    open_is_other d i =
        let o = (p.open_is d).0 i in
        let h = (k.exact d).0 o.0 in
        (is_other d h.0 (λ (c : Contains closed d). ((p.closed_is d).0 c).1 o.1), h.1, o.2)

    -- so the others are left
    others_behind : (found : List Shape) → ArePolygons closed found → AreBehind cuts from past directed open_ones found
    others_behind found are = record {
      left = others;
      bounds = both_bounds.1;
      within = λ d i. (other_is d i).0;
      over = over_is_other;
      open_is = λ d. (open_is_other d, (λ h. other_is_open d h.0 h.1 h.2));
      open_leads = λ d i. led known (GoesOver cuts from past) d ((p.open_is d).0 i).1;
      completed = λ rest all rest_are together. (let a = closed_apart cuts from past directed closed others closed_in in
          polygons_together directed closed others bounds a found rest all are rest_are together);
      each = λ p i. (closed, found, are, i);
    }

  -- what is told of a range by the edges that it knows
  pub told_behind : (open_ones : List DirectedEdge) (found : List Shape) → IsRangeTold cuts from past known open_ones found
      → AreBehind cuts from past directed open_ones found
  told_behind open_ones found t =
      let p = t.parted known_directed known_noded in
      others_behind t.closed open_ones p found (t.polygons (both_bounds t.closed open_ones p).0)
