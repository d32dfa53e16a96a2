-- Edges that span columns, from low to high: lines keep their order between two borders.
use Rattle.std.proofs.Common.{◌≡◌, ◌⊎◌, ℕ, zero, suc, ◌+◌, ◌-◌, ◌<◌, ◌≤◌, inl, inr, refl, sym, ◌∙◌, ap, subst, Option, Some, None, List, [], ◌∷◌, length, get_or, arith, true, false, w32, w64, to_z, of_z}
use Rattle.std.specs.Int.{w128}
use Rattle.std.specs.Prelude.{Contains, IfSome, IsPermutation, IsTrue, MatchOption, ℤ, pos, ◌+ℤ◌, ◌-ℤ◌, ◌*ℤ◌, ◌<ℤ◌, ◌≤ℤ◌, ◌^◌, is_some}
use Rattle.std.proofs.lemmas.Int.{ints}
use Rattle.std.proofs.lemmas.Bool.{cases_lt}
use Rattle.std.proofs.lemmas.List.Sorted.{All-permutation, Contains-permutation}
use lib.Signed.{le_z}
use Rattle.geom.specs.declared.point.Pt.{Pt}
use Rattle.geom.specs.declared.edge.Edge.{Edge}
use Rattle.geom.specs.declared.directed.DirectedEdge.{DirectedEdge}
use Rattle.geom.specs.Determinant.{determinant}
use Rattle.geom.specs.Holes.{height, left_of, run_of}
use Rattle.geom.specs.Limit.{IsWithin, coordinate_limit}
use Rattle.geom.proofs.Identity.{ring, var, num, ◌⊕◌, ◌⊖◌, ◌⊗◌}
use Rattle.geom.proofs.Integers.{cancel_pos, linear, mul_comm, mul_pos, scale_le, unscale_le, none_right}
use Rattle.geom.proofs.Numbers.{gap_is, strict_gap_is, lt_le, weak, itself}
use Rattle.geom.proofs.Tests.{le_z_told}
use Rattle.geom.proofs.Edges.{one_run}
use Rattle.geom.proofs.Doubling.{back}
use Rattle.polygonize.specs.Below.{IsAsNear, IsGap, IsGapOf, RunsBelow, gap_height}
use Rattle.polygonize.specs.Column.{IsIn, Spans}
use Rattle.polygonize.specs.Ladder.{AreInOrder, AreSpanning, IsLadder, IsLower, IsUnder, StandInOrder, over_column}
use Rattle.polygonize.specs.Next.{edge_at}
use Rattle.polygonize.specs.declared.below.Gap.{Gap}
use Rattle.polygonize.specs.declared.column.Columns.{Columns}
use Rattle.polygonize.proofs.EdgesBelow.Columns.{edge_over}
use Rattle.polygonize.proofs.EdgesBelow.GapsBelow.{only_edge, product_is, run_right, test_at_most}
use Rattle.polygonize.proofs.Filtered.{KeptSoFar}
use Rattle.polygonize.proofs.EdgesBelow.Nearness.{by_number, known_itself, nearer, nothing_below}

-- ---- a linear function that is 0 or less at two borders is so between them

between_is : (a b x n c d : ℤ) → (d -ℤ c) *ℤ ((a *ℤ x) +ℤ (b *ℤ n)) ≡ (((n *ℤ d) -ℤ x) *ℤ ((a *ℤ c) +ℤ b)) +ℤ ((x -ℤ (n *ℤ c)) *ℤ ((a *ℤ d) +ℤ b))
between_is a b x n c d = ring (a ∷ b ∷ x ∷ n ∷ c ∷ d ∷ []) ((var 5 ⊖ var 4) ⊗ ((var 0 ⊗ var 2) ⊕ (var 1 ⊗ var 3)))
    ((((var 3 ⊗ var 5) ⊖ var 2) ⊗ ((var 0 ⊗ var 4) ⊕ var 1)) ⊕ ((var 2 ⊖ (var 3 ⊗ var 4)) ⊗ ((var 0 ⊗ var 5) ⊕ var 1))) refl

sum_low : (r s t : ℤ) → t ≡ r +ℤ s → r ≤ℤ pos 0 → s ≤ℤ pos 0 → t ≤ℤ pos 0
sum_low r s t e h k = omega (arith, linear)

scaled_low : (u z : ℤ) → pos 0 ≤ℤ u → z ≤ℤ pos 0 → (u *ℤ z) ≤ℤ pos 0
scaled_low u z h k = let P : ℤ → Type 0 = λ t. (u *ℤ z) ≤ℤ t in subst P (none_right u) (scale_le z (pos 0) u k h)

between : (a b x n c d : ℤ) → c <ℤ d → (n *ℤ c) ≤ℤ x → x ≤ℤ (n *ℤ d) → ((a *ℤ c) +ℤ b) ≤ℤ pos 0 → ((a *ℤ d) +ℤ b) ≤ℤ pos 0 → ((a *ℤ x) +ℤ (b *ℤ n)) ≤ℤ pos 0
between a b x n c d l low high h k = unscale_le ((a *ℤ x) +ℤ (b *ℤ n)) (pos 0) (d -ℤ c)
    (let P : ℤ → Type 0 = λ t. ((d -ℤ c) *ℤ ((a *ℤ x) +ℤ (b *ℤ n))) ≤ℤ t in subst P (sym (none_right (d -ℤ c)))
    (sum_low _ _ _ (between_is a b x n c d) (scaled_low ((n *ℤ d) -ℤ x) ((a *ℤ c) +ℤ b) (gap_is x (n *ℤ d) high) h) (scaled_low (x -ℤ (n *ℤ c)) ((a *ℤ d) +ℤ b) (gap_is (n *ℤ c) x low) k))) (strict_gap_is c d l)

-- ---- the difference of two heights is linear

-- variables: 0 run, 1 rise, 2 p.x, 3 p.y of e; 4 run, 5 rise, 6 p.x, 7 p.y of f; 8 x, 9 y, 10 n
slope : (re se rf sf : ℤ) → ℤ
slope re se rf sf = (rf *ℤ se) -ℤ (re *ℤ sf)

shift : (re se ex ey rf sf fx fy : ℤ) → ℤ
shift re se ex ey rf sf fx fy = ((re *ℤ rf) *ℤ (ey -ℤ fy)) +ℤ (((re *ℤ sf) *ℤ fx) -ℤ ((rf *ℤ se) *ℤ ex))

over_is : (re se ex ey rf sf fx fy x y n : ℤ) → ((determinant rf sf (x -ℤ (n *ℤ fx)) (y -ℤ (n *ℤ fy)) *ℤ re) -ℤ (determinant re se (x -ℤ (n *ℤ ex)) (y -ℤ (n *ℤ ey)) *ℤ rf)) ≡ (slope re se rf sf *ℤ x) +ℤ (shift re se ex ey rf sf fx fy *ℤ n)
unfolding slope shift
over_is re se ex ey rf sf fx fy x y n = ring (re ∷ se ∷ ex ∷ ey ∷ rf ∷ sf ∷ fx ∷ fy ∷ x ∷ y ∷ n ∷ [])
    ((((var 4 ⊗ (var 9 ⊖ (var 10 ⊗ var 7))) ⊖ (var 5 ⊗ (var 8 ⊖ (var 10 ⊗ var 6)))) ⊗ var 0) ⊖ (((var 0 ⊗ (var 9 ⊖ (var 10 ⊗ var 3))) ⊖ (var 1 ⊗ (var 8 ⊖ (var 10 ⊗ var 2)))) ⊗ var 4))
    ((((var 4 ⊗ var 1) ⊖ (var 0 ⊗ var 5)) ⊗ var 8) ⊕ ((((var 0 ⊗ var 4) ⊗ (var 3 ⊖ var 7)) ⊕ (((var 0 ⊗ var 5) ⊗ var 6) ⊖ ((var 4 ⊗ var 1) ⊗ var 2))) ⊗ var 10)) refl

over_whole : (re se ex ey rf sf fx fy c : ℤ) → ((determinant rf sf (c -ℤ fx) (pos 0 -ℤ fy) *ℤ re) -ℤ (determinant re se (c -ℤ ex) (pos 0 -ℤ ey) *ℤ rf)) ≡ (slope re se rf sf *ℤ c) +ℤ shift re se ex ey rf sf fx fy
unfolding slope shift
over_whole re se ex ey rf sf fx fy c = ring (re ∷ se ∷ ex ∷ ey ∷ rf ∷ sf ∷ fx ∷ fy ∷ c ∷ [])
    ((((var 4 ⊗ (num (pos 0) ⊖ var 7)) ⊖ (var 5 ⊗ (var 8 ⊖ var 6))) ⊗ var 0) ⊖ (((var 0 ⊗ (num (pos 0) ⊖ var 3)) ⊖ (var 1 ⊗ (var 8 ⊖ var 2))) ⊗ var 4))
    ((((var 4 ⊗ var 1) ⊖ (var 0 ⊗ var 5)) ⊗ var 8) ⊕ (((var 0 ⊗ var 4) ⊗ (var 3 ⊖ var 7)) ⊕ (((var 0 ⊗ var 5) ⊗ var 6) ⊖ ((var 4 ⊗ var 1) ⊗ var 2)))) refl

low_of : (a b t : ℤ) → (a -ℤ b) ≡ t → a ≤ℤ b → t ≤ℤ pos 0
low_of a b t e h = omega (arith, linear)

of_low : (a b t : ℤ) → (a -ℤ b) ≡ t → t ≤ℤ pos 0 → a ≤ℤ b
of_low a b t e h = omega (arith, linear)

-- e is under f at a point just left of v
under_between : (e f : Edge) (columns : Columns) (v : Pt) → IsIn columns v → IsUnder e f (columns.low -ℤ pos 1) → IsUnder e f columns.high → (height f (left_of v) *ℤ run_of e) ≤ℤ (height e (left_of v) *ℤ run_of f)
under_between e f columns v i h k = of_low _ _ _ (over_is re se ex ey rf sf fx fy x y n) (between (slope re se rf sf) (shift re se ex ey rf sf fx fy) x n (columns.low -ℤ pos 1) columns.high (borders columns.low v.x columns.high i.0 i.1) (left columns.low v.x i.0) (right v.x columns.high i.1)
    (low_of _ _ _ (over_whole re se ex ey rf sf fx fy (columns.low -ℤ pos 1)) h) (low_of _ _ _ (over_whole re se ex ey rf sf fx fy columns.high) k))
  where
    re : ℤ
    re = e.q.x -ℤ e.p.x

    se : ℤ
    se = e.q.y -ℤ e.p.y

    ex : ℤ
    ex = e.p.x

    ey : ℤ
    ey = e.p.y

    rf : ℤ
    rf = f.q.x -ℤ f.p.x

    sf : ℤ
    sf = f.q.y -ℤ f.p.y

    fx : ℤ
    fx = f.p.x

    fy : ℤ
    fy = f.p.y

    n : ℤ
    n = pos (2 ^ 64)

    x : ℤ
    x = (n *ℤ v.x) -ℤ pos 1

    y : ℤ
    y = n *ℤ v.y

    borders : (a b c : ℤ) → a ≤ℤ b → b ≤ℤ c → (a -ℤ pos 1) <ℤ c
    borders a b c h k = omega (arith, linear)

    left : (a b : ℤ) → a ≤ℤ b → (pos (2 ^ 64) *ℤ (a -ℤ pos 1)) ≤ℤ ((pos (2 ^ 64) *ℤ b) -ℤ pos 1)
    left a b h = omega (arith, ints)

    right : (b c : ℤ) → b ≤ℤ c → ((pos (2 ^ 64) *ℤ b) -ℤ pos 1) ≤ℤ (pos (2 ^ 64) *ℤ c)
    right b c h = omega (arith, ints)

-- ---- from neighbours to all

-- what is above 0 times a run is so above 0
above_none : (hf he re rf : ℤ) → pos 0 <ℤ hf → pos 0 <ℤ re → pos 0 <ℤ rf → (hf *ℤ re) ≤ℤ (he *ℤ rf) → pos 0 <ℤ he
above_none hf he re rf h k m l = cancel_pos rf he m (let P : ℤ → Type 0 = λ t. pos 0 <ℤ t in subst P (mul_comm he rf) (lt_le (pos 0) (hf *ℤ re) (he *ℤ rf) (mul_pos hf re h k) l))

lower_next : (d c : DirectedEdge) (columns : Columns) (v : Pt) → Spans d columns → IsIn columns v → AreInOrder d c columns → IsLower v d c
lower_next d c columns v s i o = λ f r.
    let over = edge_over d columns v s i in
    let e = over.0 in
    let under = o e f over.1 r.runs in
    let l = under_between e f columns v i under.0 under.1 in
    (e, record { runs = over.1; over = over.2; below = above_none (height f (left_of v)) (height e (left_of v)) (run_of e) (run_of f) r.below (run_right d v e over.2) (run_right c v f r.over) l }, l)

lower_itself : (v : Pt) (d : DirectedEdge) → IsLower v d d
lower_itself v d = λ f r. (f, r, itself (height f (left_of v) *ℤ run_of f))

lower_through : (v : Pt) (a b c : DirectedEdge) → IsLower v a b → IsLower v b c → IsLower v a c
lower_through v a b c h k = λ f r.
    let m = k f r in
    let l = h m.0 m.1 in (
      l.0,
      l.1,
      nearer (height f (left_of v)) (height m.0 (left_of v)) (height l.0 (left_of v)) (run_of f) (run_of m.0) (run_of l.0) (run_right b v m.0 m.1.over)
          (weak (pos 0) (run_of f) (run_right c v f r.over)) (weak (pos 0) (run_of l.0) (run_right a v l.0 l.1.over)) m.2 l.2,
    )

pub stand_in_order : (ds : List DirectedEdge) (columns : Columns) (v : Pt) (numbers : List ℕ) → IsLadder ds columns numbers → IsIn columns v → StandInOrder ds v numbers
stand_in_order ds columns v numbers l i = λ m k h j. let e : m + (k - m) ≡ k = omega arith in
    let P : ℕ → Type 0 = λ t. IsLower v (at m) (at t) in subst P e (steps m (k - m) (let P : ℕ → Type 0 = λ t. t < length numbers in subst P (sym e) j))
  where
    at : ℕ → DirectedEdge
    at k = edge_at ds (get_or numbers k 0)

    next : (k : ℕ) → k + 1 < length numbers → IsLower v (at k) (at (k + 1))
    next k h = lower_next (at k) (at (k + 1)) columns v (l.spans k 0 (omega arith)) i (l.ordered k h)

    steps : (m t : ℕ) → m + t < length numbers → IsLower v (at m) (at (m + t))
    steps m zero h = let e : m ≡ m + 0 = omega arith in let P : ℕ → Type 0 = λ t. IsLower v (at m) (at t) in subst P e (lower_itself v (at m))
    steps m (suc t) h = let e : (m + t) + 1 ≡ m + suc t = omega arith in let P : ℕ → Type 0 = λ t. IsLower v (at m) (at t) in
        subst P e (lower_through v (at m) (at (m + t)) (at ((m + t) + 1)) (steps m t (omega arith)) (next (m + t) (omega arith)))

-- ---- the binary search

-- all before low are at least as far as the best one, and none from high on lies below
pub record IsSearched (ds : List DirectedEdge) (v : Pt) (ladder : List ℕ) (low high : ℕ) (best : Option Gap) : Type 0 where
  pub order : low ≤ high
  pub within : high ≤ length ladder
  pub known : IfSome best (IsGapOf ds v)
  pub before : (i : ℕ) → i < low → IsAsNear (edge_at ds (get_or ladder i 0)) v best
  pub after : (i : ℕ) → high ≤ i → i < length ladder → (f : Edge) → ¬ (RunsBelow (edge_at ds (get_or ladder i 0)) (left_of v) f)

pub search_begins : (ds : List DirectedEdge) (v : Pt) (ladder : List ℕ) (n : ℕ) → n ≡ length ladder → IsSearched ds v ladder 0 n None
search_begins ds v ladder n e = record { order = omega arith; within = omega (arith, e); known = tt; before = λ i h. absurd (omega arith); after = λ i h k. absurd (omega (arith, e, h, k)) }

-- a lower edge is at least as far as the one that is below
as_near : (v : Pt) (d c : DirectedEdge) (g : Gap) → IsLower v d c → IsGap c v g → IsAsNear d v (Some g)
as_near v d c g l h = λ e r. let m = l h.edge h.below in
    let same : e ≡ m.0 = one_run d e m.0 r.runs m.1.runs in
    let P : Edge → Type 0 = λ t. (gap_height g *ℤ run_of t) ≤ℤ (height t (left_of v) *ℤ g.run) in subst P (sym same)
    (let Q : ℤ → Type 0 = λ t. (t *ℤ run_of m.0) ≤ℤ (height m.0 (left_of v) *ℤ g.run) in subst Q h.height_is
    (let R : ℤ → Type 0 = λ t. (height h.edge (left_of v) *ℤ run_of m.0) ≤ℤ (height m.0 (left_of v) *ℤ t) in subst R h.run_is m.2))

module _ (ds : List DirectedEdge) (v : Pt) (ladder : List ℕ) (low high middle number : ℕ) (best : Option Gap) where
  pub goes_up : (found : Option Gap) → is_some found ≡ true → StandInOrder ds v ladder → middle < high → number ≡ get_or ladder middle 0 → number < length ds → IfSome found (λ g. g.number ≡ number)
      → MatchOption found ((e : Edge) → ¬ (RunsBelow (edge_at ds number) (left_of v) e)) (λ g. IsGap (edge_at ds number) v g) → IsSearched ds v ladder low high best → IsSearched ds v ladder (middle + 1) high found
  goes_up None y o h e i n f s = absurd (cc)
  goes_up (Some g) y o h e i n f s = record {
    order = omega arith;
    within = s.within;
    known = known_itself ds v number (Some g) i n f;
    before = λ k l. let w = s.within in as_near v (edge_at ds (get_or ladder k 0)) (edge_at ds (get_or ladder middle 0)) g (o k middle (omega arith) (omega (arith, w, h))) (let P : ℕ → Type 0 = λ t. IsGap (edge_at ds t) v g in subst P e f);
    after = s.after;
  }

  pub goes_down : (found : Option Gap) → is_some found ≡ false → StandInOrder ds v ladder → low ≤ middle → middle < high → number ≡ get_or ladder middle 0
      → MatchOption found ((e : Edge) → ¬ (RunsBelow (edge_at ds number) (left_of v) e)) (λ g. IsGap (edge_at ds number) v g) → IsSearched ds v ladder low high best → IsSearched ds v ladder low middle best
  goes_down (Some g) y o l h e f s = absurd (cc)
  goes_down None y o l h e f s = record {
    order = l;
    within = (let w = s.within in omega (arith, w, h));
    known = s.known;
    before = s.before;
    after = λ k m n c r. let b = o middle k m n c r in f b.0 (let P : ℕ → Type 0 = λ t. RunsBelow (edge_at ds t) (left_of v) b.0 in subst P (sym e) b.1);
  }

pub search_ends : (ds : List DirectedEdge) (v : Pt) (ladder : List ℕ) (low high : ℕ) (best : Option Gap) → high ≤ low → IsSearched ds v ladder low high best → (m : ℕ) → m < length ladder → IsAsNear (edge_at ds (get_or ladder m 0)) v best
search_ends ds v ladder low high best h s m l = elim (cases_lt m low) [
  | inl k ↦ s.before m k
  | inr k ↦ nothing_below (edge_at ds (get_or ladder m 0)) v best (s.after m (omega arith) l)
]

-- ---- the ladder that is made

pub are_spanning : (ds : List DirectedEdge) (columns : Columns) (numbers found : List ℕ) (n : ℕ) → length numbers ≤ n → KeptSoFar (λ m. get_or numbers m 0) (λ k. (k < length ds) × Spans (edge_at ds k) columns) (λ k. Spans (edge_at ds k) columns) n found → AreSpanning ds columns numbers found
are_spanning ds columns numbers found n l s = record {
  inside = λ k d h. (s.fit k d h).0;
  spans = λ k d h. (s.fit k d h).1;
  complete = by_number (λ k. Spans (edge_at ds k) columns → Contains found k) numbers (λ m h t. s.wanted m (omega arith) t);
}

pub spanning_sorted : (ds : List DirectedEdge) (columns : Columns) (numbers xs ys : List ℕ) → IsPermutation xs ys → AreSpanning ds columns numbers xs → AreSpanning ds columns numbers ys
spanning_sorted ds columns numbers xs ys p s = record {
  inside = All-permutation (λ k. k < length ds) xs ys p s.inside;
  spans = All-permutation (λ k. Spans (edge_at ds k) columns) xs ys p s.spans;
  complete = λ k c h. Contains-permutation xs ys k p (s.complete k c h);
}

-- ---- the check of neighbours

pub under_test : (e f : Edge) (column col r s over_f over_e run_e run_f : ℤ) → col ≡ column → over_f ≡ over_column f col → over_e ≡ over_column e col → run_e ≡ run_of e → run_f ≡ run_of f → IsWithin (2 ^ 59) over_f → IsWithin (2 ^ 59) over_e → IsWithin (2 ^ 29) run_e → IsWithin (2 ^ 29) run_f
    → r ≡ to_z w64 (of_z w64 over_f) *ℤ to_z w64 (of_z w64 run_e) → s ≡ to_z w64 (of_z w64 over_e) *ℤ to_z w64 (of_z w64 run_f)
    → (IsTrue (le_z (to_z w128 (of_z w128 r)) (to_z w128 (of_z w128 s))) → IsUnder e f column) × (IsUnder e f column → IsTrue (le_z (to_z w128 (of_z w128 r)) (to_z w128 (of_z w128 s))))
under_test e f column col r s over_f over_e run_e run_f c i j k l a b g h x y = (
  λ t. subst (λ (z : ℤ). z ≤ℤ (over_column e column *ℤ run_of f)) first (subst (λ (z : ℤ). to_z w128 (of_z w128 r) ≤ℤ z) second (le_z_told _ _ t)),
  λ t. test_at_most _ _ (subst (λ (z : ℤ). z ≤ℤ to_z w128 (of_z w128 s)) (sym first) (subst (λ (z : ℤ). (over_column f column *ℤ run_of e) ≤ℤ z) (sym second) t)),
)
  where
    times : {p q u v : ℤ} → p ≡ q → u ≡ v → p *ℤ u ≡ q *ℤ v
    times m n = λ z. m z *ℤ n z

    first : to_z w128 (of_z w128 r) ≡ over_column f column *ℤ run_of e
    first = product_is r over_f run_e a g x ∙ times (i ∙ ap (over_column f) c) k

    second : to_z w128 (of_z w128 s) ≡ over_column e column *ℤ run_of f
    second = product_is s over_e run_f b h y ∙ times (j ∙ ap (over_column e) c) l

pub in_order : (d c : DirectedEdge) (columns : Columns) (e f : Edge) → ((e.p ≡ d.from) × (e.q ≡ d.to)) ⊎ ((e.p ≡ d.to) × (e.q ≡ d.from)) → ((f.p ≡ c.from) × (f.q ≡ c.to)) ⊎ ((f.p ≡ c.to) × (f.q ≡ c.from)) → (x y : ℤ) → x ≡ columns.low -ℤ pos 1 → y ≡ columns.high
    → IsUnder e f x → IsUnder e f y → AreInOrder d c columns
in_order d c columns e f h k x y i j a b = λ m n r s.
    let u = only_edge d e h m r in
    let v = only_edge c f k n s in
    let P : Edge → Type 0 = λ t. IsUnder t n (columns.low -ℤ pos 1) × IsUnder t n columns.high in
    let Q : Edge → Type 0 = λ t. IsUnder e t (columns.low -ℤ pos 1) × IsUnder e t columns.high in
    subst P (sym u) (subst Q (sym v) (subst (IsUnder e f) i a, subst (IsUnder e f) j b))

pub border_is : (low : ℤ) → IsWithin coordinate_limit low → IsWithin coordinate_limit (low -ℤ pos 1) → to_z w32 (of_z w32 (to_z w32 (of_z w32 low) -ℤ pos 1)) ≡ low -ℤ pos 1
border_is low h k = ap (λ t. to_z w32 (of_z w32 (t -ℤ pos 1))) (back low h) ∙ back (low -ℤ pos 1) k
