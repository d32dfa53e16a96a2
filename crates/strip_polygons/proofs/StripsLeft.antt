-- The directed edges that are left before a strip, and behind it.
use Rattle.std.proofs.Common.{◌≡◌, ◌⊎◌, ◌+◌, ◌<◌, ◌≤◌, inl, inr, ℕ, List, [], refl, sym, subst, ap, ⊎_elim, arith}
use Rattle.std.specs.Prelude.{ℤ, Contains, int_le, length}
use Rattle.std.proofs.lemmas.Bool.{cases_lt}
use Rattle.std.proofs.lemmas.List.Sums.{count_by-le-length}
use Rattle.geom.specs.declared.edge.Edge.{Edge}
use Rattle.geom.specs.declared.point.Pt.{Pt}
use Rattle.geom.specs.declared.directed.DirectedEdge.{DirectedEdge}
use Rattle.geom.specs.Directed.{AreDirected, IsDirectedBefore, RunsAlong, from_to}
use Rattle.geom.specs.NodedEdges.{AreNodedEdges}
use Rattle.geom.proofs.Edges.{PtOrder, one_run, pt_order}
use Rattle.geom.proofs.Edges.PtOrder.{before, equal, after}
use Rattle.geom.proofs.Lists.{In, contains_in, in_contains}
use Rattle.strips_law.specs.Strips.{strip_at}
use Rattle.parts_law.specs.Bounds.{AreBounds}
use Rattle.parts_law.specs.Law.{AreClosedIn}
use Rattle.parts_law.specs.Ties.{AreKnown, AreOthers, AreParted, BeginsFrom, GoesOver, HasColumn, IsOpen, LeadsTo}
use Rattle.parts_law.specs.Ties.LeadsTo.{here, on}
use Rattle.parts_law.proofs.Membership.{edge_in_or_not}
use Rattle.strip_polygons.specs.Strips.{AreLeft, AreMet, BeginsIn}
use Rattle.strip_polygons.proofs.StripsLists.{Kept, kept}

-- ---- strips
pub strip_within : (cuts : List ℤ) (p : Pt) → strip_at cuts p ≤ length cuts
strip_within cuts p = count_by-le-length (λ c. int_le c p.x) cuts

-- an edge begins in one strip
one_begin : (cuts : List ℤ) (d : DirectedEdge) (e f : Edge) → RunsAlong d e → RunsAlong d f → strip_at cuts e.p ≡ strip_at cuts f.p
one_begin cuts d e f r s = ap (λ (t : Edge). strip_at cuts t.p) (one_run d e f r s)

-- a directed edge runs along an edge
pub edge_along : (directed : List DirectedEdge) → AreDirected directed → (d : DirectedEdge) → Contains directed d → (e : Edge) × RunsAlong d e
edge_along directed a d i = by_order (pt_order d.from d.to)
  where
    by_order : PtOrder d.from d.to → (e : Edge) × RunsAlong d e
    by_order (before h) = (record { p = d.from; q = d.to; ordered = h }, inl refl)
    by_order (after h) = (record { p = d.to; q = d.from; ordered = h }, inr refl)
    by_order (equal h) = absurd (a.one_way d.from d.from (turned d.to h i) (turned d.to h i))
      where
        turned : (v : Pt) → d.from ≡ v → Contains directed (from_to d.from v) → Contains directed (from_to d.from d.from)
        turned v q j = subst (λ (w : Pt). Contains directed (from_to d.from w)) (sym q) j

before_or_in : (k n : ℕ) → k < n + 1 → (k < n) ⊎ (k ≡ n)
before_or_in k n h = ⊎_elim (λ (l : k < n). inl l) (λ (l : n ≤ k). inr (omega arith)) (cases_lt k n)

-- where ties lead to an edge, there is one
pub led : (known : List DirectedEdge) (P : DirectedEdge → Type 0) (d : DirectedEdge) → LeadsTo known P d → (e : DirectedEdge) × P e
led known P d (here i h) = (d, h)
led known P d (on i t l) = led known P _ l

-- an edge that is open in the first strips goes on behind them
goes_on : (cuts : List ℤ) (strip : ℕ) (known : List DirectedEdge) (d : DirectedEdge) → IsOpen cuts 0 (strip + 1) known d → strip + 1 ≤ length cuts
goes_on cuts strip known d o = over (led known (GoesOver cuts 0 (strip + 1)) d o)
  where
    over : (e : DirectedEdge) × GoesOver cuts 0 (strip + 1) e → strip + 1 ≤ length cuts
    over (e, g) = ⊎_elim (λ (h : strip_at cuts g.edge.p < 0). absurd (omega arith))
        (λ (h : strip + 1 ≤ strip_at cuts g.edge.q). let w = strip_within cuts g.edge.q in omega arith) g.over

-- ---- before the first strip all edges are left
pub all_left : (cuts : List ℤ) (directed : List DirectedEdge) → AreBounds directed → AreLeft cuts 0 directed [] directed
all_left cuts directed bounds = record {
  bounds = bounds;
  within = λ d i. i;
  later = λ d i b. i;
  waiting_is = λ d. ((λ i. absurd (contains_in [] d i)), (λ h. absurd (let l = h.1.begins in omega arith)));
  not_past = λ d i. omega arith;
}

-- behind the last strip none is
pub none_left : (cuts : List ℤ) (strip : ℕ) (directed waiting left : List DirectedEdge) → length cuts < strip → AreLeft cuts strip directed waiting left
    → (d : DirectedEdge) → ¬ (Contains left d)
none_left cuts strip directed waiting left past l d i = let h = l.not_past d i in omega arith

-- ---- from a strip to the next one
module _ (cuts : List ℤ) (strip : ℕ) (directed waiting left met : List DirectedEdge)
    (l : AreLeft cuts strip directed waiting left) (m : AreMet cuts strip waiting directed met) where
  met_is_left : (d : DirectedEdge) → Contains met d → Contains left d × HasColumn cuts 0 (strip + 1) d
  met_is_left d i = ⊎_elim
      (λ (w : Contains waiting d). let h = (l.waiting_is d).0 w in (
        h.0,
        record { edge = h.1.edge; runs = h.1.runs; begins = (let b = h.1.begins in omega arith); ends = omega arith },
      ))
      (λ (b : Contains directed d × BeginsIn cuts strip d). (
        l.later d b.0 (record { edge = b.1.edge; runs = b.1.runs; begins = (let q = b.1.begins in omega arith) }),
        record { edge = b.1.edge; runs = b.1.runs; begins = (let q = b.1.begins in omega arith); ends = omega arith },
      ))
      ((m.exact d).0 i)

  left_is_met : (d : DirectedEdge) → Contains left d → HasColumn cuts 0 (strip + 1) d → Contains met d
  left_is_met d i h = ⊎_elim
      (λ (b : strip_at cuts h.edge.p < strip).
      (m.exact d).1 (inl ((l.waiting_is d).1 (i, record { edge = h.edge; runs = h.runs; begins = b; ends = omega arith }))))
      (λ (b : strip_at cuts h.edge.p ≡ strip). (m.exact d).1 (inr (l.within d i, record { edge = h.edge; runs = h.runs; begins = b })))
      (before_or_in (strip_at cuts h.edge.p) strip h.begins)

  -- what is met are the edges left that the first strips know
  pub are_known : AreKnown cuts 0 (strip + 1) left met
  are_known = record { ascending = m.ascending; exact = λ d. (met_is_left d, (λ h. left_is_met d h.0 h.1)) }

  met_in_left : (d : DirectedEdge) → Contains met d → Contains left d
  met_in_left d i = (met_is_left d i).0

  -- they meet only at ends, and none stands in both directions
  pub met_noded : AreNodedEdges met
  met_noded c d e f i j r s n = l.bounds.noded c d e f (met_in_left c i) (met_in_left d j) r s n

  pub met_directed : AreDirected met
  met_directed = record { ascending = m.ascending; one_way = λ u v i j. l.bounds.closes.are_directed.one_way u v (met_in_left _ i) (met_in_left _ j) }

  -- ---- of those met, some are closed and some open
  module _ (closed open_ones : List DirectedEdge) (p : AreParted cuts 0 (strip + 1) met closed open_ones) where
    abbrev not_closed : Kept IsDirectedBefore (λ d. ¬ (Contains closed d)) (Contains closed) left
    not_closed = kept IsDirectedBefore (λ d. ¬ (Contains closed d)) (Contains closed) left l.bounds.closes.are_directed.ascending
        (λ d i. ⊎_elim (λ (c : Contains closed d). inr c) (λ (n : ¬ (Contains closed d)). inl n) (edge_in_or_not closed d))

    -- the edges left that are not closed now
    abbrev pub others : List DirectedEdge
    others = not_closed.list

    other_is : (d : DirectedEdge) → Contains others d → Contains left d × (¬ (Contains closed d))
    other_is d i = let o = not_closed.only d (contains_in not_closed.list d i) in (in_contains left d o.0, o.1)

    is_other : (d : DirectedEdge) → Contains left d → ¬ (Contains closed d) → Contains others d
    is_other d i n = ⊎_elim (λ (o : In d not_closed.list). in_contains not_closed.list d o) (λ (c : Contains closed d). absurd (n c))
        (not_closed.each d (contains_in left d i))

    closed_in_left : (d : DirectedEdge) → Contains closed d → Contains left d
    closed_in_left d i = met_in_left d ((p.closed_is d).0 i).0

    are_others : AreOthers left closed others
    are_others = record {
      ascending = not_closed.ascending;
      either = λ d. (
        (λ i. ⊎_elim (λ (c : Contains closed d). inl c) (λ (n : ¬ (Contains closed d)). inr (is_other d i n)) (edge_in_or_not closed d)),
        (λ o. ⊎_elim (λ (c : Contains closed d). closed_in_left d c) (λ (i : Contains others d). (other_is d i).0) o),
      );
      not_both = λ d c o. (other_is d o).1 c;
    }

    pub closed_in : AreClosedIn cuts 0 (strip + 1) left closed others
    closed_in = record {
      bounds = l.bounds;
      known = met;
      are_known = are_known;
      open_ones = open_ones;
      are_parted = p;
      are_others = are_others;
    }

    -- an edge that begins behind the strip is not closed
    later_not_closed : (d : DirectedEdge) → BeginsFrom cuts (strip + 1) d → ¬ (Contains closed d)
    later_not_closed d b c =
        let h = (met_is_left d ((p.closed_is d).0 c).0).1 in
        let q = one_begin cuts d b.edge h.edge b.runs h.runs in
        let k = b.begins in
        let n = h.begins in
        omega arith

    -- one of the others that begins in the strips is open
    other_is_open : (d : DirectedEdge) → Contains others d → HasColumn cuts 0 (strip + 1) d → Contains open_ones d
    other_is_open d i h = ⊎_elim (λ (o : Contains open_ones d). o) (λ (n : ¬ (Contains open_ones d)). absurd (o.1 (closed_else n)))
        (edge_in_or_not open_ones d)
      where
        o : Contains left d × (¬ (Contains closed d))
        o = other_is d i

        known : Contains met d
        known = left_is_met d o.0 h

        closed_else : ¬ (Contains open_ones d) → Contains closed d
        closed_else n = (p.closed_is d).1 (
          known,
          (λ (q : IsOpen cuts 0 (strip + 1) met d). n ((p.open_is d).1 (known, q, record { edge = h.edge; runs = h.runs; begins = omega arith }))),
        )

    open_is_other : (d : DirectedEdge) → Contains open_ones d → Contains others d × HasColumn cuts 0 (strip + 1) d
    open_is_other d i =
        let o = (p.open_is d).0 i in
        let h = met_is_left d o.0 in
        (is_other d h.0 (λ (c : Contains closed d). ((p.closed_is d).0 c).1 o.1), h.1)

    -- the others begin in the strips and are open, or behind them
    other_not_past : (d : DirectedEdge) → Contains others d → strip + 1 ≤ length cuts
    other_not_past d i = ⊎_elim
        (λ (o : Contains open_ones d). goes_on cuts strip met d ((p.open_is d).0 o).1)
        (λ (n : ¬ (Contains open_ones d)). behind n)
        (edge_in_or_not open_ones d)
      where
        behind : ¬ (Contains open_ones d) → strip + 1 ≤ length cuts
        behind n =
            let a = edge_along left l.bounds.closes.are_directed d (other_is d i).0 in
            let w = strip_within cuts a.0.p in
            ⊎_elim
            (λ (h : strip_at cuts a.0.p < strip + 1). absurd (n (other_is_open d i (record { edge = a.0; runs = a.1; begins = h; ends = omega arith }))))
            (λ (h : strip + 1 ≤ strip_at cuts a.0.p). omega arith)
            (cases_lt (strip_at cuts a.0.p) (strip + 1))

    pub left_behind : AreBounds others → AreLeft cuts (strip + 1) directed open_ones others
    left_behind bounds = record {
      bounds = bounds;
      within = λ d i. l.within d (other_is d i).0;
      later = λ d i b. is_other d (l.later d i (record { edge = b.edge; runs = b.runs; begins = (let k = b.begins in omega arith) })) (later_not_closed d b);
      waiting_is = λ d. (open_is_other d, (λ h. other_is_open d h.0 h.1));
      not_past = other_not_past;
    }
