-- What can be told of edges, so that what is known to hold of them can be shown.
use Rattle.std.proofs.Common.{◌≡◌, ◌⊎◌, inl, inr, Bool, true, false, List, [], ◌∷◌, Ordering, Less, Equal, Greater, refl, subst, arith, ⊎_elim}
use Rattle.std.proofs.Math.IntN.{ℤ, pos}
use Rattle.std.proofs.Math.Logic.{∥∥₁_elim, ∥∥₁_map}
use Rattle.std.proofs.Props.{props}
use Rattle.std.specs.Prelude.{Contains, ◌<ℤ◌}
use Rattle.std.specs.Cmp.{int_ranks}
use Rattle.std.specs.Ordering.{MatchOrdering, int_cmp}
use Rattle.geom.specs.declared.edge.Edge.{Edge}
use Rattle.geom.specs.Determinant.{side}
use Rattle.geom.specs.EdgeOrder.{IsEdgeBefore}
use Rattle.geom.specs.Order.{IsBefore}
use Rattle.geom.specs.Noded.{IsBad, IsLeastBad}
use Rattle.geom.proofs.Integers.{linear}
use Rattle.geom.proofs.Lists.{In, contains_in, in_contains}
use Rattle.geom.proofs.Orders.{pt_cmp, pt_ranks, edge_cmp, edge_ranks, edge_before_itself, edge_before_trans, clash_same}
use Rattle.noding_test.proofs.CommonPoints.{AreOnOneSide}
use Rattle.noding_test.proofs.MeetingLaws.{Decides, at_ends, beside_first, beside_second, crossing_first, crossing_second, on_one_line, said_bad, said_clean}
use Rattle.noding_test.proofs.VerdictLaws.{clean_not_bad}

-- P holds, or it doesn't
abbrev pub Decidable : Type 0 → Type 0
Decidable P = P ⊎ ¬ P

pub shown : {P : Type 0} → Decidable P → ∥ P ∥₁ → P
shown (inl p) h = p
shown (inr n) h = absurd (∥∥₁_elim h (hlevel props) (λ p. n p))

both : {P Q : Type 0} → Decidable P → Decidable Q → Decidable (P × Q)
both (inl p) (inl q) = inl (p, q)
both (inl p) (inr n) = inr (λ h. n h.1)
both (inr n) t = inr (λ h. n h.0)

either : {P Q : Type 0} → Decidable P → Decidable Q → Decidable (P ⊎ Q)
either (inl p) t = inl (inl p)
either (inr n) (inl q) = inl (inr q)
either (inr n) (inr m) = inr (λ h. ⊎_elim (λ p. n p) (λ q. m q) h)

-- ---- numbers
clash : {x y : ℤ} → x <ℤ y → y <ℤ x → ⊥
clash {x} {y} h k = omega (arith, linear)

clash_past : {x y : ℤ} → y <ℤ x → x ≡ y → ⊥
clash_past {x} {y} h e = omega (arith, linear)

less : (x y : ℤ) → Decidable (x <ℤ y)
less x y = tell (int_cmp x y) (int_ranks x y)
  where
    tell : (o : Ordering) → MatchOrdering o (x <ℤ y) (x ≡ y) (y <ℤ x) → Decidable (x <ℤ y)
    tell Less h = inl h
    tell Equal h = inr (λ l. clash_same l h)
    tell Greater h = inr (λ l. clash l h)

zero : (x : ℤ) → Decidable (x ≡ pos 0)
zero x = tell (int_cmp x (pos 0)) (int_ranks x (pos 0))
  where
    tell : (o : Ordering) → MatchOrdering o (x <ℤ pos 0) (x ≡ pos 0) (pos 0 <ℤ x) → Decidable (x ≡ pos 0)
    tell Less h = inr (λ e. clash_same h e)
    tell Equal h = inl h
    tell Greater h = inr (λ e. clash_past h e)

one_side : (x y : ℤ) → Decidable (AreOnOneSide x y)
one_side x y = either (both (less (pos 0) x) (less (pos 0) y)) (both (less x (pos 0)) (less y (pos 0)))

-- ---- edges
pub edge_before : (e f : Edge) → Decidable (IsEdgeBefore e f)
edge_before e f = tell (edge_cmp e f) (edge_ranks e f)
  where
    tell : (o : Ordering) → MatchOrdering o (IsEdgeBefore e f) (e ≡ f) (IsEdgeBefore f e) → Decidable (IsEdgeBefore e f)
    tell Less h = inl h
    tell Equal h = inr (λ l. edge_before_itself f (subst (λ (x : Edge). IsEdgeBefore x f) h l))
    tell Greater h = inr (λ l. edge_before_itself e (edge_before_trans e f e l h))

same_edge : (e f : Edge) → Decidable (e ≡ f)
same_edge e f = tell (edge_cmp e f) (edge_ranks e f)
  where
    tell : (o : Ordering) → MatchOrdering o (IsEdgeBefore e f) (e ≡ f) (IsEdgeBefore f e) → Decidable (e ≡ f)
    tell Less h = inr (λ s. edge_before_itself f (subst (λ (x : Edge). IsEdgeBefore x f) s h))
    tell Equal h = inl h
    tell Greater h = inr (λ s. edge_before_itself f (subst (λ (x : Edge). IsEdgeBefore f x) s h))

member : (edges : List Edge) (e : Edge) → Decidable (In e edges)
member [] e = inr (λ i. i)
member (f ∷ fs) e = either (same_edge f e) (member fs e)

contains : (edges : List Edge) (e : Edge) → Decidable (Contains edges e)
contains edges e = ⊎_elim (λ i. inl (in_contains edges e i)) (λ n. inr (λ h. n (contains_in edges e h))) (member edges e)

-- ---- bad pairs
on_line : (e f : Edge) → (side e.p e.q f.p ≡ pos 0) × (side e.p e.q f.q ≡ pos 0) → (answer : Bool) × Decides e f answer
on_line e f z = tell (pt_cmp e.q f.p) (pt_cmp f.q e.p) (pt_ranks e.q f.p) (pt_ranks f.q e.p)
  where
    tell : (o u : Ordering) → MatchOrdering o (IsBefore e.q f.p) (e.q ≡ f.p) (IsBefore f.p e.q) → MatchOrdering u (IsBefore f.q e.p) (f.q ≡ e.p) (IsBefore e.p f.q) → (answer : Bool) × Decides e f answer
    tell Less u h k = (true, on_one_line e f z true (inl (inr h)))
    tell Equal u h k = (true, on_one_line e f z true (inl (inl h)))
    tell Greater Less h k = (true, on_one_line e f z true (inr (inr k)))
    tell Greater Equal h k = (true, on_one_line e f z true (inr (inl k)))
    tell Greater Greater h k = (false, on_one_line e f z false (h, k))

decided : (e f : Edge) → (answer : Bool) × Decides e f answer
decided e f =
    let a : ℤ = side e.p e.q f.p in
    let b : ℤ = side e.p e.q f.q in
    let c : ℤ = side f.p f.q e.p in
    let d : ℤ = side f.p f.q e.q in
    ⊎_elim (λ z. on_line e f z)
    (λ n. ⊎_elim (λ s. (true, said_clean e f (beside_first e f s)))
    (λ s. ⊎_elim (λ t. (true, said_clean e f (beside_second e f t)))
    (λ t. ⊎_elim
    (λ h. ⊎_elim (λ k. (true, said_clean e f (at_ends e f n h k))) (λ k. (false, said_bad e f (crossing_second e f k s t))) (either (zero c) (zero d)))
    (λ h. (false, said_bad e f (crossing_first e f h s t)))
    (either (zero a) (zero b)))
    (one_side c d))
    (one_side a b))
    (both (zero a) (zero b))

pub bad : (e f : Edge) → Decidable (IsBad e f)
bad e f = let (answer, d) = decided e f in tell answer d
  where
    tell : (answer : Bool) → Decides e f answer → Decidable (IsBad e f)
    tell true d = inr (λ h. clean_not_bad e f (d.clean refl) h)
    tell false d = inl (d.bad refl)

-- the least bad pair that is known to be there
pub least_shown : (edges : List Edge) (e f : Edge) → ∥ IsLeastBad edges e f ∥₁ → IsLeastBad edges e f
least_shown edges e f h = record {
  e_in = shown (contains edges e) (∥∥₁_map h (λ l. l.e_in));
  f_in = shown (contains edges f) (∥∥₁_map h (λ l. l.f_in));
  ordered = shown (edge_before e f) (∥∥₁_map h (λ l. l.ordered));
  bad = shown (bad e f) (∥∥₁_map h (λ l. l.bad));
  least = λ g k g_in k_in ordered is_bad before. ∥∥₁_elim h (hlevel props) (λ l. l.least g k g_in k_in ordered is_bad before);
}
