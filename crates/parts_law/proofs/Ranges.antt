-- What a range of strips knows when the closed edges of others are gone, and what two ranges that touch know together.
use Rattle.std.proofs.Common.{◌≡◌, ◌⊎◌, inl, inr, ℕ, Bool, true, false, List, refl, subst, arith, ⊎_elim, nat_lt}
use Rattle.std.specs.Prelude.{◌<◌, ◌≤◌, ◌↔◌, ℤ, AllPairs, Contains}
use Rattle.std.proofs.lemmas.Bool.Decides.{nat_tests}
use Rattle.geom.specs.declared.directed.DirectedEdge.{DirectedEdge}
use Rattle.geom.specs.declared.edge.Edge.{Edge}
use Rattle.geom.specs.Directed.{IsDirectedBefore}
use Rattle.geom.proofs.Edges.{one_run}
use Rattle.strips_law.specs.Strips.{strip_at}
use Rattle.strips_law.proofs.Columns.{strip_by_before}
use Rattle.parts_law.specs.Law.{AreClosedIn, AreTwoRanges, RangesAreApart, RangesAreJoined}
use Rattle.parts_law.specs.Ties.{AreComing, AreKnown, AreParted, BeginsFrom, GoesOver, HasColumn, IsOpen}
use Rattle.parts_law.specs.Ties.LeadsTo.{here}
use Rattle.parts_law.proofs.ClosedApart.{StaysIn, within}
use Rattle.parts_law.proofs.Membership.{edge_in_or_not}

-- ---- a range without the strips of another
-- a closed edge has no column there
elsewhere : (cuts : List ℤ) (from past other_from other_past : ℕ) (directed closed others : List DirectedEdge)
    → (past ≤ other_from) ⊎ (other_past ≤ from) → AreClosedIn cuts from past directed closed others → (d : DirectedEdge) → Contains closed d
    → ¬ (HasColumn cuts other_from other_past d)
elsewhere cuts from past other_from other_past directed closed others apart c d i h =
    let w = within cuts from past directed closed others c d i in
    clash h.edge (subst (StaysIn cuts from past) (one_run d w.edge h.edge w.runs h.runs) w.stays_in) h.begins h.ends apart
  where
    clash : (f : Edge) → StaysIn cuts from past f → strip_at cuts f.p < other_past → other_from ≤ strip_at cuts f.q
        → (past ≤ other_from) ⊎ (other_past ≤ from) → ⊥
    clash f s l r (inl a) = let h = s.last.high in omega arith
    clash f s l r (inr a) = let h = s.first.low in omega arith

pub ranges_are_apart : RangesAreApart
ranges_are_apart cuts from past other_from other_past directed closed others known apart c k = record {
  ascending = k.ascending;
  exact = λ d. (
    λ i. let h = (k.exact d).0 i in (left d h.1 ((c.are_others.either d).0 h.0), h.1),
    λ h. (k.exact d).1 ((c.are_others.either d).1 (inr h.0), h.1),
  );
}
  where
    left : (d : DirectedEdge) → HasColumn cuts other_from other_past d → Contains closed d ⊎ Contains others d → Contains others d
    left d h (inl i) = absurd (elsewhere cuts from past other_from other_past directed closed others apart c d i h)
    left d h (inr i) = i

-- ---- a range and its open edges
module _ {cuts : List ℤ} {from past : ℕ} {directed known closed open_ones : List DirectedEdge} (k : AreKnown cuts from past directed known)
    (p : AreParted cuts from past known closed open_ones) where
  -- a closed edge has a column there, and does not go over
  closed_column : (d : DirectedEdge) → Contains closed d → HasColumn cuts from past d
  closed_column d i = ((k.exact d).0 ((p.closed_is d).0 i).0).1

  closed_stays : (d : DirectedEdge) → Contains closed d → ¬ (GoesOver cuts from past d)
  closed_stays d i o = let h = (p.closed_is d).0 i in h.1 (here h.0 o)

  open_directed : (d : DirectedEdge) → Contains open_ones d → Contains directed d
  open_directed d i = ((k.exact d).0 ((p.open_is d).0 i).0).0

  open_column : (d : DirectedEdge) → Contains open_ones d → HasColumn cuts from past d
  open_column d i = ((k.exact d).0 ((p.open_is d).0 i).0).1

  open_begins : (d : DirectedEdge) → Contains open_ones d → BeginsFrom cuts from d
  open_begins d i = ((p.open_is d).0 i).2

  open_not_closed : (d : DirectedEdge) → Contains open_ones d → ¬ (Contains closed d)
  open_not_closed d i j = ((p.closed_is d).0 j).1 ((p.open_is d).0 i).1

  -- an edge that begins there and is not closed is open
  is_open : (d : DirectedEdge) → Contains directed d → HasColumn cuts from past d → BeginsFrom cuts from d → ¬ (Contains closed d)
      → Contains open_ones d
  is_open d i h b n =
      let j = (k.exact d).1 (i, h) in
      ⊎_elim (λ c. c) (λ m. absurd (n ((p.closed_is d).1 (j, λ (o : IsOpen cuts from past known d). m ((p.open_is d).1 (j, o, b))))))
      (edge_in_or_not open_ones d)

-- ---- two ranges that touch
less_or_not : (a b : ℕ) → (a < b) ⊎ (b ≤ a)
less_or_not a b = told (nat_lt a b) refl
  where
    told : (t : Bool) → nat_lt a b ≡ t → (a < b) ⊎ (b ≤ a)
    told true h = inl (grind (arith, nat_tests))
    told false h = inr (grind (arith, nat_tests))

module _ (cuts : List ℤ) (from middle past : ℕ) (directed open_first open_second others : List DirectedEdge)
    (t : AreTwoRanges cuts from middle past directed open_first open_second others) where
  -- what both together know
  Known : DirectedEdge → Type 0
  Known d = Contains others d × HasColumn cuts from past d

  known_left : (d : DirectedEdge) → Contains directed d → HasColumn cuts from past d → ¬ (Contains t.closed_first d)
      → ¬ (Contains t.closed_second d) → Known d
  unfolding Known
  known_left d i h n m = ((t.left d h).1 (i, n, m), h)

  -- what comes into the first range and what is open in either of them
  comes : (coming : List DirectedEdge) → AreComing cuts from directed coming → (d : DirectedEdge) → Contains coming d → Known d
  comes coming c d i =
      let h = (c d).0 i in
      let o = t.in_order in
      let before = h.1.before in
      known_left d h.0 (record { edge = h.1.edge; runs = h.1.runs; begins = omega arith; ends = h.1.into })
      (λ j. closed_stays t.are_known_first t.are_parted_first d j (record { edge = h.1.edge; runs = h.1.runs; over = inl before }))
      (λ j. closed_stays t.are_known_second t.are_parted_second d j (record { edge = h.1.edge; runs = h.1.runs; over = inl (omega arith) }))

  first_open : (d : DirectedEdge) → Contains open_first d → Known d
  first_open d i =
      let h = open_column t.are_known_first t.are_parted_first d i in
      let o = t.in_order in
      let begins = h.begins in
      known_left d (open_directed t.are_known_first t.are_parted_first d i)
      (record { edge = h.edge; runs = h.runs; begins = omega arith; ends = h.ends })
      (open_not_closed t.are_known_first t.are_parted_first d i)
      (λ j. closed_stays t.are_known_second t.are_parted_second d j (record { edge = h.edge; runs = h.runs; over = inl begins }))

  second_open : (d : DirectedEdge) → Contains open_second d → Known d
  second_open d i =
      let h = open_column t.are_known_second t.are_parted_second d i in
      let b = open_begins t.are_known_second t.are_parted_second d i in
      let o = t.in_order in
      let ends = h.ends in
      known_left d (open_directed t.are_known_second t.are_parted_second d i)
      (record { edge = h.edge; runs = h.runs; begins = h.begins; ends = omega arith })
      (λ j. not_first b (closed_column t.are_known_first t.are_parted_first d j))
      (open_not_closed t.are_known_second t.are_parted_second d i)
    where
      not_first : BeginsFrom cuts middle d → HasColumn cuts from middle d → ⊥
      not_first b h =
          let begins : strip_at cuts b.edge.p < middle =
          subst (λ (f : Edge). strip_at cuts f.p < middle) (one_run d h.edge b.edge h.runs b.runs) h.begins in
          let from_there = b.begins in
          omega arith

  -- are all that they know: by the strip of the lesser end
  by_strip : (coming : List DirectedEdge) → AreComing cuts from directed coming → (d : DirectedEdge) → Known d
      → Contains coming d ⊎ (Contains open_first d ⊎ Contains open_second d)
  unfolding Known
  by_strip coming c d k = at (less_or_not (strip_at cuts h.edge.p) from) (less_or_not (strip_at cuts h.edge.p) middle)
    where
      h : HasColumn cuts from past d
      h = k.1

      is_left : Contains directed d × ¬ (Contains t.closed_first d) × ¬ (Contains t.closed_second d)
      is_left = (t.left d h).0 k.0

      at : (strip_at cuts h.edge.p < from) ⊎ (from ≤ strip_at cuts h.edge.p) → (strip_at cuts h.edge.p < middle) ⊎ (middle ≤ strip_at cuts h.edge.p)
          → Contains coming d ⊎ (Contains open_first d ⊎ Contains open_second d)
      at (inl l) _ = inl ((c d).1 (is_left.0, record { edge = h.edge; runs = h.runs; before = l; into = h.ends }))
      at (inr r) (inl l) = inr (inl (is_open t.are_known_first t.are_parted_first d is_left.0
          (record { edge = h.edge; runs = h.runs; begins = l; ends = h.ends })
          (record { edge = h.edge; runs = h.runs; begins = r }) is_left.1))
      at (inr _) (inr r) =
          let grows = strip_by_before cuts h.edge.p h.edge.q h.edge.ordered in
          inr (inr (is_open t.are_known_second t.are_parted_second d is_left.0
          (record { edge = h.edge; runs = h.runs; begins = h.begins; ends = omega arith })
          (record { edge = h.edge; runs = h.runs; begins = r }) is_left.2))

  joined : (coming known : List DirectedEdge) → AreComing cuts from directed coming → AllPairs IsDirectedBefore known
      → ((d : DirectedEdge) → Contains known d ↔ (Contains coming d ⊎ (Contains open_first d ⊎ Contains open_second d)))
      → AreKnown cuts from past others known
  unfolding Known
  joined coming known c ascending exact = record {
    ascending = ascending;
    exact = λ d. (
      λ i. ⊎_elim (comes coming c d) (⊎_elim (first_open d) (second_open d)) ((exact d).0 i),
      λ k. (exact d).1 (by_strip coming c d k),
    );
  }

pub ranges_are_joined : RangesAreJoined
ranges_are_joined cuts from middle past directed open_first open_second others coming known t c ascending exact =
    joined cuts from middle past directed open_first open_second others t coming known c ascending exact
