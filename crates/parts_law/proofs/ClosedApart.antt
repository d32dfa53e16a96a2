-- What is closed in a range of strips is apart from the other edges.
use Rattle.std.proofs.Common.{◌≡◌, ◌⊎◌, inl, inr, ℕ, List, refl, sym, subst, arith, ⊎_elim, le_trans, lt_of_le_of_lt}
use Rattle.std.proofs.Math.Nat.{lt_of_not-le}
use Rattle.std.specs.Prelude.{◌<◌, ◌≤◌, ◌≤ℤ◌, ℤ, Contains}
use Rattle.geom.specs.declared.point.Pt.{Pt}
use Rattle.geom.specs.declared.edge.Edge.{Edge}
use Rattle.geom.specs.declared.directed.DirectedEdge.{DirectedEdge}
use Rattle.geom.specs.Directed.{AreDirected, RunsAlong, from_to}
use Rattle.geom.specs.Holes.{IsNearestBelow, left_of}
use Rattle.geom.proofs.Edges.{PtOrder, one_run, pt_order}
use Rattle.geom.proofs.Edges.PtOrder.{before, equal, after}
use Rattle.geom.proofs.Numbers.{weak}
use Rattle.geom.proofs.OneOwner.{one_nearest}
use Rattle.strips_law.specs.Strips.{strip_at}
use Rattle.strips_law.proofs.Columns.{strip_by_before, strips_grow}
use Rattle.parts_law.specs.Apart.{AreApart, HaveOtherEnds}
use Rattle.parts_law.specs.Bounds.{GoesRight, IsHoleCorner}
use Rattle.parts_law.specs.Law.{AreClosedIn}
use Rattle.parts_law.specs.Ties.{AreTied, GoesOver, HasColumn, IsOpen}
use Rattle.parts_law.specs.Ties.LeadsTo.{here, on}
use Rattle.parts_law.proofs.NearestBelow.{columns, nearest_in_part}
use Rattle.parts_law.proofs.Parts.{among, two_ends}

-- v is an end of d
abbrev IsEndOf : DirectedEdge → Pt → Type 0
IsEndOf d v = (d.from ≡ v) ⊎ (d.to ≡ v)

-- the edge that d runs along has the same ends
end_along : (d : DirectedEdge) (f : Edge) (v : Pt) → RunsAlong d f → IsEndOf d v → (f.p ≡ v) ⊎ (f.q ≡ v)
end_along d f v (inl r) (inl h) = inl (subst (λ (t : DirectedEdge). t.from ≡ v) r h)
end_along d f v (inl r) (inr h) = inr (subst (λ (t : DirectedEdge). t.to ≡ v) r h)
end_along d f v (inr r) (inl h) = inr (subst (λ (t : DirectedEdge). t.from ≡ v) r h)
end_along d f v (inr r) (inr h) = inl (subst (λ (t : DirectedEdge). t.to ≡ v) r h)

-- a directed edge runs along an edge
record Along (d : DirectedEdge) : Type 0 where
  edge : Edge
  runs : RunsAlong d edge

along : (directed : List DirectedEdge) → AreDirected directed → (d : DirectedEdge) → Contains directed d → Along d
along directed a d i = by_order (pt_order d.from d.to)
  where
    by_order : PtOrder d.from d.to → Along d
    by_order (before h) = record { edge = record { p = d.from; q = d.to; ordered = h }; runs = inl refl }
    by_order (after h) = record { edge = record { p = d.to; q = d.from; ordered = h }; runs = inr refl }
    by_order (equal h) = absurd (two_ends directed a d.from d.to i h)

-- ---- strips from one to before another one
not_before : (a b : ℕ) → ¬ (b < a) → a ≤ b
not_before a b n = omega arith

module _ (cuts : List ℤ) (from past : ℕ) where
  -- v lies in them
  pub record LiesIn (v : Pt) : Type 0 where
    pub low : from ≤ strip_at cuts v
    pub high : strip_at cuts v < past

  -- the edge lies in them
  pub record StaysIn (f : Edge) : Type 0 where
    pub first : LiesIn f.p
    pub last : LiesIn f.q

  stays : (d : DirectedEdge) (h : HasColumn cuts from past d) → ¬ (GoesOver cuts from past d) → StaysIn h.edge
  stays d h n = record {
    first = record {
      low = not_before from (strip_at cuts h.edge.p) (λ l. n (record { edge = h.edge; runs = h.runs; over = inl l }));
      high = h.begins;
    };
    last = record { low = h.ends; high = lt_of_not-le (λ l. n (record { edge = h.edge; runs = h.runs; over = inr l })) };
  }

  -- so do its ends, and what lies between them
  end_in : (d : DirectedEdge) (f : Edge) (v : Pt) → RunsAlong d f → StaysIn f → IsEndOf d v → LiesIn v
  end_in d f v r s h = ⊎_elim (λ (e : f.p ≡ v). subst LiesIn e s.first) (λ (e : f.q ≡ v). subst LiesIn e s.last) (end_along d f v r h)

  between_in : (f : Edge) (v : Pt) → StaysIn f → f.p.x ≤ℤ v.x → v.x ≤ℤ f.q.x → LiesIn v
  between_in f v s l r = record {
    low = le_trans s.first.low (strips_grow cuts f.p.x v.x l);
    high = lt_of_le_of_lt (strips_grow cuts v.x f.q.x r) s.last.high;
  }

  -- an edge over or at the column of a point in the strips has a column there
  has_column : (d : DirectedEdge) (f : Edge) (v : Pt) → RunsAlong d f → LiesIn v
      → strip_at cuts f.p ≤ strip_at cuts v → strip_at cuts v ≤ strip_at cuts f.q → HasColumn cuts from past d
  has_column d f v r i l h = record {
    edge = f;
    runs = r;
    begins = lt_of_le_of_lt l i.high;
    ends = le_trans i.low h;
  }

  at_end : (d : DirectedEdge) (f : Edge) (v : Pt) → RunsAlong d f → LiesIn v → IsEndOf d v → HasColumn cuts from past d
  at_end d f v r i h = ⊎_elim
      (λ (e : f.p ≡ v). has_column d f f.p r (subst LiesIn (sym e) i) (omega arith) grows)
      (λ (e : f.q ≡ v). has_column d f f.q r (subst LiesIn (sym e) i) grows (omega arith))
      (end_along d f v r h)
    where
      grows : strip_at cuts f.p ≤ strip_at cuts f.q
      grows = strip_by_before cuts f.p f.q f.ordered

-- ---- closed edges
module _ (cuts : List ℤ) (from past : ℕ) (directed closed others : List DirectedEdge) (c : AreClosedIn cuts from past directed closed others) where
  is_known : (d : DirectedEdge) → Contains closed d → Contains c.known d
  is_known d i = ((c.are_parted.closed_is d).0 i).0

  is_directed : (d : DirectedEdge) → Contains closed d → Contains directed d
  is_directed = among directed closed others c.are_others

  -- what is tied to a closed edge is closed
  tied : (d e : DirectedEdge) → Contains closed d → Contains c.known e → AreTied c.known d e ⊎ AreTied c.known e d → Contains closed e
  tied d e i k t =
      let h = (c.are_parted.closed_is d).0 i in
      (c.are_parted.closed_is e).1 (k, λ (o : IsOpen cuts from past c.known e). h.1 (on h.0 t o))

  -- and a closed edge lies in the strips
  pub record Within (d : DirectedEdge) : Type 0 where
    pub edge : Edge
    pub runs : RunsAlong d edge
    pub stays_in : StaysIn cuts from past edge

  pub within : (d : DirectedEdge) → Contains closed d → Within d
  within d i =
      let h = (c.are_parted.closed_is d).0 i in
      let k = ((c.are_known.exact d).0 h.0).1 in
      record { edge = k.edge; runs = k.runs; stays_in = stays cuts from past d k (λ (o : GoesOver cuts from past d). h.1 (here h.0 o)) }

  end_within : (d : DirectedEdge) (v : Pt) → Contains closed d → IsEndOf d v → LiesIn cuts from past v
  end_within d v i h = let w = within d i in end_in cuts from past d w.edge v w.runs w.stays_in h

  -- edges with an end in the strips are known
  known_at : (e : DirectedEdge) (v : Pt) → Contains directed e → LiesIn cuts from past v → IsEndOf e v → Contains c.known e
  known_at e v i l h =
      let a = along directed c.bounds.closes.are_directed e i in
      (c.are_known.exact e).1 (i, at_end cuts from past e a.edge v a.runs l h)

  -- ---- vertices
  -- what has an end in common with a closed edge, and is tied to it, is closed
  from_vertex : (d e : DirectedEdge) (v : Pt) → Contains closed d → IsEndOf d v → Contains directed e → IsEndOf e v
      → AreTied c.known d e ⊎ AreTied c.known e d → Contains closed e
  from_vertex d e v i h j k t = tied d e i (known_at e v j (end_within d v i h) k) t

  -- what ends where a closed edge ends is closed: an edge goes on from there
  same_end : (d e : DirectedEdge) → Contains closed d → Contains directed e → d.to ≡ e.to → Contains closed e
  same_end d e i j h =
      let w = c.bounds.closes.turns d.from d.to (is_directed d i) in
      let onward : DirectedEdge = from_to d.to w.0 in
      let k = from_vertex d onward d.to i (inr refl) w.1 (inl refl) (inl (inr (inl refl))) in
      from_vertex onward e d.to k (inl refl) j (inr (sym h)) (inr (inr (inl (sym h))))

  not_other : (e : DirectedEdge) → Contains others e → (Contains directed e → Contains closed e) → ⊥
  not_other e j h = c.are_others.not_both e (h ((c.are_others.either e).1 (inr j))) j

  other_ends : (d e : DirectedEdge) → Contains closed d → Contains others e → HaveOtherEnds d e
  other_ends d e i j = record {
    starts = λ h. not_other e j (λ k. from_vertex d e d.from i (inl refl) k (inl (sym h)) (inl (inl h)));
    start_end = λ h. not_other e j (λ k. from_vertex d e d.from i (inl refl) k (inr (sym h)) (inr (inr (inl (sym h)))));
    end_start = λ h. not_other e j (λ k. from_vertex d e d.to i (inr refl) k (inl (sym h)) (inl (inr (inl h))));
    ends = λ h. not_other e j (λ k. same_end d e i k h);
  }

  -- ---- holes
  module _ (u v w : Pt) (corner : IsHoleCorner directed u v w) (d : DirectedEdge) (near : IsNearestBelow directed (left_of v) d) where
    -- the nearest edge below a hole's corner goes to the right
    goes_right : GoesRight d
    goes_right = let b = c.bounds.below u v w corner in
        subst GoesRight (one_nearest directed c.bounds.closes.are_directed c.bounds.noded v b.0 d b.1.nearest near) b.1.goes_right

    -- and is the nearest one of the known edges, if it is known
    near_known : Contains c.known d → IsNearestBelow c.known (left_of v) d
    near_known k = nearest_in_part directed c.known (λ e j. ((c.are_known.exact e).0 j).0) (left_of v) d k near

    lies_under : Contains c.known d → AreTied c.known d (from_to v w)
    lies_under k = inr (inr (record { lower_goes = goes_right; upper_goes = corner.goes_right; nearest = near_known k }))

    beside : (near.edge.p.x ≤ℤ v.x) × (v.x ≤ℤ near.edge.q.x)
    beside = let b = columns near.edge v near.below.over in (weak near.edge.p.x v.x b.0, b.1)

    -- a closed corner has a closed edge below it
    below_closed : Contains closed (from_to v w) → Contains closed d
    below_closed i = tied (from_to v w) d i k (inr (lies_under k))
      where
        k : Contains c.known d
        k = (c.are_known.exact d).1 (
          near.inside,
          has_column cuts from past d near.edge v near.runs (end_within (from_to v w) v i (inl refl))
              (strips_grow cuts near.edge.p.x v.x beside.0) (strips_grow cuts v.x near.edge.q.x beside.1),
        )

    -- and a closed edge has closed corners above it
    above_closed : Contains closed d → Contains closed (from_to v w)
    above_closed i = tied d (from_to v w) i (known_at (from_to v w) v corner.goes in_strips (inl refl)) (inl (lies_under (is_known d i)))
      where
        in_strips : LiesIn cuts from past v
        in_strips =
            let s = within d i in
            let t = subst (StaysIn cuts from past) (one_run d s.edge near.edge s.runs near.runs) s.stays_in in
            between_in cuts from past near.edge v t beside.0 beside.1

pub closed_apart : (cuts : List ℤ) (from past : ℕ) (directed closed others : List DirectedEdge)
    → AreClosedIn cuts from past directed closed others → AreApart directed closed others
closed_apart cuts from past directed closed others c = record {
  ascending = c.are_parted.closed_ascends;
  are_others = c.are_others;
  vertices = other_ends cuts from past directed closed others c;
  holes = λ u v w corner d near. (
    below_closed cuts from past directed closed others c u v w corner d near,
    above_closed cuts from past directed closed others c u v w corner d near,
  );
}
