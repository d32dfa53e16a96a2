-- Gaps to edges below a point.
use Rattle.std.specs.Int.{w128}
use Rattle.std.proofs.Common.{◌≡◌, ◌⊎◌, ℕ, ◌*◌, ◌^◌, inl, inr, sym, ◌∙◌, ap, subst, Bool, true, false, arith, w64, to_z, of_z, to_z-of_z, FitsSigned, lit<}
use Rattle.std.specs.Prelude.{IsTrue, ℤ, pos, ◌+ℤ◌, ◌-ℤ◌, ◌*ℤ◌, ◌<ℤ◌, ◌≤ℤ◌, ◌&&◌}
use Rattle.std.proofs.lemmas.Int.{ints}
use lib.Signed.{lt_z, le_z}
use Rattle.geom.specs.declared.point.Pt.{Pt}
use Rattle.geom.specs.declared.edge.Edge.{Edge}
use Rattle.geom.specs.Determinant.{side}
use Rattle.geom.specs.Holes.{height, left_of, run_of}
use Rattle.geom.specs.Limit.{AreInLimit, InLimit, IsWithin, coordinate_limit}
use Rattle.geom.specs.declared.directed.DirectedEdge.{DirectedEdge}
use Rattle.geom.specs.Directed.{RunsAlong, from_to}
use Rattle.geom.proofs.Edges.{edge_path, not_turned}
use Rattle.geom.specs.Parity.{covers}
use Rattle.geom.proofs.Bounds.{fits_64, fits_128, product_within}
use Rattle.geom.proofs.Integers.{expand, linear}
use Rattle.geom.proofs.Points.{both_and}
use Rattle.geom.proofs.Tests.{le_z_told, lt_z_told}
use Rattle.polygonize.specs.Below.{HasGapRoom, IsGap, IsLessGap, RunsBelow, gap_height}
use Rattle.polygonize.specs.declared.below.Gap.{Gap}

pub ends_in_limit : (u v p q : Pt) → ((p ≡ u) × (q ≡ v)) ⊎ ((p ≡ v) × (q ≡ u)) → AreInLimit u v → AreInLimit p q
ends_in_limit u v p q (inl e) h = record { a_in = (let P : Pt → Type 0 = InLimit in subst P (sym e.0) h.a_in); b_in = (let P : Pt → Type 0 = InLimit in subst P (sym e.1) h.b_in) }
ends_in_limit u v p q (inr e) h = record { a_in = (let P : Pt → Type 0 = InLimit in subst P (sym e.0) h.b_in); b_in = (let P : Pt → Type 0 = InLimit in subst P (sym e.1) h.a_in) }

-- ---- an edge over a point

first_of_both : (a b : Bool) → a && b ≡ true → a ≡ true
first_of_both a b h = grind arith

second_of_both : (a b : Bool) → a && b ≡ true → b ≡ true
second_of_both a b h = grind arith

test_less : (a b : ℤ) → a <ℤ b → lt_z a b ≡ true
test_less a b h = grind (arith, ints)

pub test_at_most : (a b : ℤ) → a ≤ℤ b → le_z a b ≡ true
test_at_most a b h = grind (arith, ints)

pub not_less : (a b : ℤ) → lt_z a b ≡ false → b ≤ℤ a
not_less a b h = omega (arith, ints)

-- the tests of `covers` at a point just left of x, on an edge from p to q
abbrev over : ℤ → ℤ → ℤ → Bool
over p q x = le_z (pos (2 ^ 64) *ℤ p) ((pos (2 ^ 64) *ℤ x) -ℤ pos 1) && lt_z ((pos (2 ^ 64) *ℤ x) -ℤ pos 1) (pos (2 ^ 64) *ℤ q)

pub over_when : (p q x : ℤ) → p <ℤ x → x ≤ℤ q → over p q x ≡ true
over_when p q x h k = both_and _ _ (test_at_most _ _ (low p x h)) (test_less _ _ (high q x k))
  where
    low : (p x : ℤ) → p <ℤ x → (pos (2 ^ 64) *ℤ p) ≤ℤ ((pos (2 ^ 64) *ℤ x) -ℤ pos 1)
    low p x h = omega (arith, ints)

    high : (q x : ℤ) → x ≤ℤ q → ((pos (2 ^ 64) *ℤ x) -ℤ pos 1) <ℤ (pos (2 ^ 64) *ℤ q)
    high q x k = omega (arith, ints)

pub over_is : (p q x : ℤ) → over p q x ≡ true → (p <ℤ x) × (x ≤ℤ q)
over_is p q x h = (low p x (le_z_told _ _ (first_of_both _ _ h)), high q x (lt_z_told _ _ (second_of_both _ _ h)))
  where
    low : (p x : ℤ) → (pos (2 ^ 64) *ℤ p) ≤ℤ ((pos (2 ^ 64) *ℤ x) -ℤ pos 1) → p <ℤ x
    low p x h = omega (arith, ints)

    high : (q x : ℤ) → ((pos (2 ^ 64) *ℤ x) -ℤ pos 1) <ℤ (pos (2 ^ 64) *ℤ q) → x ≤ℤ q
    high q x k = omega (arith, ints)

pub over_tests : (p q x p' q' x' : ℤ) → p' ≡ p → q' ≡ q → x' ≡ x → lt_z p' x' ≡ true → (IsTrue (le_z x' q') → over p q x ≡ true) × (over p q x ≡ true → IsTrue (le_z x' q'))
over_tests p q x p' q' x' e f g h = (
  λ t. over_when p q x (let P : ℤ → Type 0 = λ t. t <ℤ x in subst P e (let Q : ℤ → Type 0 = λ t. p' <ℤ t in subst Q g (lt_z_told p' x' h))) (let P : ℤ → Type 0 = λ t. t ≤ℤ q in subst P g (let Q : ℤ → Type 0 = λ t. x' ≤ℤ t in subst Q f (le_z_told x' q' t))),
  λ t. test_at_most x' q' (let P : ℤ → Type 0 = λ t. t ≤ℤ q' in subst P (sym g) (let Q : ℤ → Type 0 = λ t. x ≤ℤ t in subst Q (sym f) (over_is p q x t).1)),
)

-- ---- lesser gaps
wider : (z : ℤ) → IsWithin (2 ^ 29) z → IsWithin (2 ^ 59) z
wider z h = record { low = omega (arith, ints); high = omega (arith, ints) }

-- a product of 128 bits is that of the numbers
pub product_is : (r x y : ℤ) → IsWithin (2 ^ 59) x → IsWithin (2 ^ 29) y → r ≡ to_z w64 (of_z w64 x) *ℤ to_z w64 (of_z w64 y) → to_z w128 (of_z w128 r) ≡ x *ℤ y
product_is r x y h k e =
    let f : FitsSigned w64 x = fits_64 (2 ^ 59) x (lit< tt) h in
    let g : FitsSigned w64 y = fits_64 (2 ^ 29) y (lit< tt) k in
    let p : FitsSigned w128 (x *ℤ y) = fits_128 _ _ (lit< tt) (product_within (2 ^ 59) (2 ^ 29) x y h k) in
    rw e (simp to_z-of_z)

height_times : (kk s r u : ℤ) → ((kk *ℤ s) +ℤ r) *ℤ u ≡ (kk *ℤ (s *ℤ u)) +ℤ (r *ℤ u)
height_times kk s r u = simp expand (omega (arith, linear))

less_first : (x y a b c d : ℤ) → x ≡ (pos (2 ^ 64) *ℤ a) +ℤ c → y ≡ (pos (2 ^ 64) *ℤ b) +ℤ d → IsWithin (2 ^ 29 * 2 ^ 29) c → IsWithin (2 ^ 29 * 2 ^ 29) d → a <ℤ b → x <ℤ y
less_first x y a b c d e f h k l = omega (arith, ints)

less_second : (x y a b c d : ℤ) → x ≡ (pos (2 ^ 64) *ℤ a) +ℤ c → y ≡ (pos (2 ^ 64) *ℤ b) +ℤ d → b ≤ℤ a → a ≤ℤ b → c <ℤ d → x <ℤ y
less_second x y a b c d e f h k l = omega (arith, ints)

second_less : (x y a b c d : ℤ) → x ≡ (pos (2 ^ 64) *ℤ a) +ℤ c → y ≡ (pos (2 ^ 64) *ℤ b) +ℤ d → b ≤ℤ a → a ≤ℤ b → x <ℤ y → c <ℤ d
second_less x y a b c d e f h k l = omega (arith, ints)

module _ (e f : Gap) (h : HasGapRoom e) (k : HasGapRoom f) where
  left_is : gap_height e *ℤ f.run ≡ (pos (2 ^ 64) *ℤ (e.side *ℤ f.run)) +ℤ (e.rise *ℤ f.run)
  left_is = height_times (pos (2 ^ 64)) e.side e.rise f.run

  right_is : gap_height f *ℤ e.run ≡ (pos (2 ^ 64) *ℤ (f.side *ℤ e.run)) +ℤ (f.rise *ℤ e.run)
  right_is = height_times (pos (2 ^ 64)) f.side f.rise e.run

  pub less_by_side : (r s : ℤ) → r ≡ to_z w64 (of_z w64 e.side) *ℤ to_z w64 (of_z w64 f.run) → s ≡ to_z w64 (of_z w64 f.side) *ℤ to_z w64 (of_z w64 e.run) → lt_z (to_z w128 (of_z w128 r)) (to_z w128 (of_z w128 s)) ≡ true → IsLessGap e f
  less_by_side r s x y t = less_first _ _ (e.side *ℤ f.run) (f.side *ℤ e.run) (e.rise *ℤ f.run) (f.rise *ℤ e.run) left_is right_is (product_within (2 ^ 29) (2 ^ 29) e.rise f.run h.rise_in k.run_in) (product_within (2 ^ 29) (2 ^ 29) f.rise e.run k.rise_in h.run_in)
      (let P : ℤ → Type 0 = λ t. t <ℤ (f.side *ℤ e.run) in subst P (product_is r e.side f.run h.side_in k.run_in x) (let Q : ℤ → Type 0 = λ t. to_z w128 (of_z w128 r) <ℤ t in subst Q (product_is s f.side e.run k.side_in h.run_in y) (lt_z_told _ _ t)))

  -- the sides are equal
  same_sides : (r s : ℤ) → r ≡ to_z w64 (of_z w64 e.side) *ℤ to_z w64 (of_z w64 f.run) → s ≡ to_z w64 (of_z w64 f.side) *ℤ to_z w64 (of_z w64 e.run) → lt_z (to_z w128 (of_z w128 r)) (to_z w128 (of_z w128 s)) ≡ false → (f.side *ℤ e.run) ≤ℤ (e.side *ℤ f.run)
  same_sides r s x y t = let P : ℤ → Type 0 = λ t. t ≤ℤ (e.side *ℤ f.run) in subst P (product_is s f.side e.run k.side_in h.run_in y) (let Q : ℤ → Type 0 = λ t. to_z w128 (of_z w128 s) ≤ℤ t in subst Q (product_is r e.side f.run h.side_in k.run_in x) (not_less _ _ t))

pub not_both : (e f : Gap) → IsLessGap e f → ¬ (IsLessGap f e)
not_both e f h k = clash (gap_height e *ℤ f.run) (gap_height f *ℤ e.run) h k
  where
    clash : (a b : ℤ) → a <ℤ b → b <ℤ a → ⊥
    clash a b h k = omega (arith, ints)

pub by_rise : (e f : Gap) → HasGapRoom e → HasGapRoom f → (r s u v : ℤ) → r ≡ to_z w64 (of_z w64 e.side) *ℤ to_z w64 (of_z w64 f.run) → s ≡ to_z w64 (of_z w64 f.side) *ℤ to_z w64 (of_z w64 e.run)
    → lt_z (to_z w128 (of_z w128 r)) (to_z w128 (of_z w128 s)) ≡ false → lt_z (to_z w128 (of_z w128 s)) (to_z w128 (of_z w128 r)) ≡ false
    → u ≡ to_z w64 (of_z w64 e.rise) *ℤ to_z w64 (of_z w64 f.run) → v ≡ to_z w64 (of_z w64 f.rise) *ℤ to_z w64 (of_z w64 e.run)
    → (IsTrue (lt_z (to_z w128 (of_z w128 u)) (to_z w128 (of_z w128 v))) → IsLessGap e f) × (IsLessGap e f → IsTrue (lt_z (to_z w128 (of_z w128 u)) (to_z w128 (of_z w128 v))))
by_rise e f h k r s u v x y t w i j = (
  λ z. less_second _ _ (e.side *ℤ f.run) (f.side *ℤ e.run) (e.rise *ℤ f.run) (f.rise *ℤ e.run) (left_is e f h k) (right_is e f h k) (same_sides e f h k r s x y t) (same_sides f e k h s r y x w)
      (let P : ℤ → Type 0 = λ t. t <ℤ (f.rise *ℤ e.run) in subst P first (let Q : ℤ → Type 0 = λ t. to_z w128 (of_z w128 u) <ℤ t in subst Q second (lt_z_told _ _ z))),
  λ z. test_less _ _ (let P : ℤ → Type 0 = λ t. t <ℤ to_z w128 (of_z w128 v) in subst P (sym first) (let Q : ℤ → Type 0 = λ t. (e.rise *ℤ f.run) <ℤ t in subst Q (sym second)
      (second_less _ _ (e.side *ℤ f.run) (f.side *ℤ e.run) (e.rise *ℤ f.run) (f.rise *ℤ e.run) (left_is e f h k) (right_is e f h k) (same_sides e f h k r s x y t) (same_sides f e k h s r y x w) z))),
)
  where
    first : to_z w128 (of_z w128 u) ≡ e.rise *ℤ f.run
    first = product_is u e.rise f.run (wider e.rise h.rise_in) k.run_in i

    second : to_z w128 (of_z w128 v) ≡ f.rise *ℤ e.run
    second = product_is v f.rise e.run (wider f.rise k.rise_in) h.run_in j

-- ---- the edge of a directed edge
same_ends : (d : DirectedEdge) (e : Edge) (p q : Pt) → ((p ≡ d.from) × (q ≡ d.to)) ⊎ ((p ≡ d.to) × (q ≡ d.from)) → RunsAlong d e → ((e.p ≡ p) × (e.q ≡ q)) ⊎ ((e.p ≡ q) × (e.q ≡ p))
same_ends d e p q (inl h) (inl r) = inl (ap (λ t. t.from) (sym r) ∙ sym h.0, ap (λ t. t.to) (sym r) ∙ sym h.1)
same_ends d e p q (inl h) (inr r) = inr (ap (λ t. t.to) (sym r) ∙ sym h.1, ap (λ t. t.from) (sym r) ∙ sym h.0)
same_ends d e p q (inr h) (inl r) = inr (ap (λ t. t.from) (sym r) ∙ sym h.1, ap (λ t. t.to) (sym r) ∙ sym h.0)
same_ends d e p q (inr h) (inr r) = inl (ap (λ t. t.to) (sym r) ∙ sym h.0, ap (λ t. t.from) (sym r) ∙ sym h.1)

one_edge : (e f : Edge) → ((e.p ≡ f.p) × (e.q ≡ f.q)) ⊎ ((e.p ≡ f.q) × (e.q ≡ f.p)) → e ≡ f
one_edge e f (inl h) = edge_path e f h.0 h.1
one_edge e f (inr h) = absurd (not_turned e f h.0 h.1)

-- the edge that joins the ends is the only one that d runs along
pub only_edge : (d : DirectedEdge) (f : Edge) → ((f.p ≡ d.from) × (f.q ≡ d.to)) ⊎ ((f.p ≡ d.to) × (f.q ≡ d.from)) → (e : Edge) → RunsAlong d e → e ≡ f
only_edge d f h e r = one_edge e f (same_ends d e f.p f.q h r)

runs_of : (d : DirectedEdge) (f : Edge) → ((f.p ≡ d.from) × (f.q ≡ d.to)) ⊎ ((f.p ≡ d.to) × (f.q ≡ d.from)) → RunsAlong d f
runs_of d f (inl h) = inl (λ i. from_to (sym h.0 i) (sym h.1 i))
runs_of d f (inr h) = inr (λ i. from_to (sym h.1 i) (sym h.0 i))

-- ---- which edges lie below
height_parts : (kk r s px py x y : ℤ) → (r *ℤ ((kk *ℤ y) -ℤ (kk *ℤ py))) -ℤ (s *ℤ (((kk *ℤ x) -ℤ pos 1) -ℤ (kk *ℤ px))) ≡ (kk *ℤ ((r *ℤ (y -ℤ py)) -ℤ (s *ℤ (x -ℤ px)))) +ℤ s
height_parts kk r s px py x y = simp expand (omega (arith, linear))

pub height_is : (e : Edge) (v : Pt) → height e (left_of v) ≡ (pos (2 ^ 64) *ℤ side e.p e.q v) +ℤ (e.q.y -ℤ e.p.y)
height_is e v = height_parts (pos (2 ^ 64)) (e.q.x -ℤ e.p.x) (e.q.y -ℤ e.p.y) e.p.x e.p.y v.x v.y

-- the edge doesn't cover the point
pub not_over : (d : DirectedEdge) (v : Pt) (f : Edge) → ((f.p ≡ d.from) × (f.q ≡ d.to)) ⊎ ((f.p ≡ d.to) × (f.q ≡ d.from)) → ¬ (covers f (left_of v) ≡ true) → (e : Edge) → ¬ (RunsBelow d (left_of v) e)
not_over d v f h n e b = n (let P : Edge → Type 0 = λ t. covers t (left_of v) ≡ true in subst P (only_edge d f h e b.runs) b.over)

-- the edge isn't strictly below it
pub not_below : (d : DirectedEdge) (v : Pt) (f : Edge) (s r : ℤ) → ((f.p ≡ d.from) × (f.q ≡ d.to)) ⊎ ((f.p ≡ d.to) × (f.q ≡ d.from)) → s ≡ side f.p f.q v → r ≡ f.q.y -ℤ f.p.y → ¬ (pos 0 <ℤ ((pos (2 ^ 64) *ℤ s) +ℤ r)) → (e : Edge) → ¬ (RunsBelow d (left_of v) e)
not_below d v f s r h i j n e b = n (let P : ℤ → Type 0 = λ t. pos 0 <ℤ t in subst P (height_is f v ∙ sum_of (sym i) (sym j)) (let Q : Edge → Type 0 = λ t. pos 0 <ℤ height t (left_of v) in subst Q (only_edge d f h e b.runs) b.below))
  where
    sum_of : {a b x y : ℤ} → a ≡ x → b ≡ y → (pos (2 ^ 64) *ℤ a) +ℤ b ≡ (pos (2 ^ 64) *ℤ x) +ℤ y
    sum_of h k = λ i. (pos (2 ^ 64) *ℤ h i) +ℤ k i

pub run_right : (d : DirectedEdge) (v : Pt) (f : Edge) → covers f (left_of v) ≡ true → pos 0 <ℤ run_of f
run_right d v f h = let o = over_is f.p.x f.q.x v.x h in more f.p.x v.x f.q.x o.0 o.1
  where
    more : (p x q : ℤ) → p <ℤ x → x ≤ℤ q → pos 0 <ℤ (q -ℤ p)
    more p x q h k = omega (arith, linear)

-- the numbers of the code are those of the edge
pub gap_made : (d : DirectedEdge) (v : Pt) (f : Edge) (g : Gap) → ((f.p ≡ d.from) × (f.q ≡ d.to)) ⊎ ((f.p ≡ d.to) × (f.q ≡ d.from)) → AreInLimit d.from d.to → g.side ≡ side f.p f.q v → IsWithin (2 ^ 59) (side f.p f.q v) → g.rise ≡ f.q.y -ℤ f.p.y → g.run ≡ f.q.x -ℤ f.p.x
    → covers f (left_of v) ≡ true → pos 0 <ℤ ((pos (2 ^ 64) *ℤ g.side) +ℤ g.rise) → IsGap d v g
gap_made d v f g h l i w j k c b = record {
  edge = f;
  below = record { runs = runs_of d f h; over = c; below = let P : ℤ → Type 0 = λ t. pos 0 <ℤ t in subst P (sym high) b };
  height_is = high;
  run_is = sym k;
  room = record {
    some = let P : ℤ → Type 0 = λ t. pos 0 <ℤ t in subst P (sym k) (run_right d v f c);
    side_in = let P : ℤ → Type 0 = IsWithin (2 ^ 59) in subst P (sym i) w;
    run_in = let P : ℤ → Type 0 = IsWithin (2 ^ 29) in subst P (sym k) (apart f.q.x f.p.x ends.b_in.x_in ends.a_in.x_in);
    rise_in = let P : ℤ → Type 0 = IsWithin (2 ^ 29) in subst P (sym j) (apart f.q.y f.p.y ends.b_in.y_in ends.a_in.y_in);
  };
}
  where
    ends : AreInLimit f.p f.q
    ends = ends_in_limit d.from d.to f.p f.q h l

    apart : (a b : ℤ) → IsWithin coordinate_limit a → IsWithin coordinate_limit b → IsWithin (2 ^ 29) (a -ℤ b)
    apart a b h k = record { low = omega (arith, ints); high = omega (arith, ints) }

    high : height f (left_of v) ≡ gap_height g
    high = height_is f v ∙ (λ n. (pos (2 ^ 64) *ℤ sym i n) +ℤ sym j n)

-- a distance is kept by 64 bits
pub kept : (z n : ℤ) → z ≡ n → IsWithin (2 ^ 59) n → to_z w64 (of_z w64 z) ≡ n
kept z n e h = let f : FitsSigned w64 n = fits_64 (2 ^ 59) n (lit< tt) h in rw e (simp to_z-of_z)

pub small_distance : (a b : ℤ) → IsWithin coordinate_limit a → IsWithin coordinate_limit b → IsWithin (2 ^ 29) (a -ℤ b)
small_distance a b h k = record { low = omega (arith, ints); high = omega (arith, ints) }

pub same_within : (n : ℕ) (z m : ℤ) → z ≡ m → IsWithin n z → IsWithin n m
same_within n z m e h = let P : ℤ → Type 0 = IsWithin n in subst P e h

pub kept_distance : (z a b : ℤ) → z ≡ a -ℤ b → IsWithin coordinate_limit a → IsWithin coordinate_limit b → to_z w64 (of_z w64 z) ≡ a -ℤ b
kept_distance z a b e h k = kept z (a -ℤ b) e (wider (a -ℤ b) (small_distance a b h k))

pub distance_in : (z a b : ℤ) → z ≡ a -ℤ b → IsWithin coordinate_limit a → IsWithin coordinate_limit b → IsWithin (2 ^ 29) (to_z w64 (of_z w64 z))
distance_in z a b e h k = let P : ℤ → Type 0 = IsWithin (2 ^ 29) in subst P (sym (kept_distance z a b e h k)) (small_distance a b h k)
