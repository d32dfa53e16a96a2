-- What holds of all pairs, in either order, holds of them after a permutation.
use Rattle.std.proofs.Common.{◌≡◌, ◌⊎◌, ℕ, ◌<◌, List, length, get_or, refl, sym, ◌∙◌, ap, subst, inl, inr, arith}
use Rattle.std.specs.Prelude.{AllPairs, IsPermutation}
use Rattle.std.specs.List.{swap}
use Rattle.std.proofs.lemmas.Bool.{cases_eq, cases_lt}
use Rattle.std.proofs.lemmas.List.Edits.{swapped_from_swap, length-swap}
use Rattle.std.proofs.lemmas.List.Sorted.{IsPermutation-keeps}

swapped : {X : Type 0} (R : X → X → Type 0) → ((x y : X) → R x y → R y x) → (l : List X) (i j : ℕ) → i < length l → j < length l → AllPairs R l → AllPairs R (swap l i j)
swapped {X} R flip l i j h k p a b d m n = first (cases_eq a i) (cases_eq a j) (cases_eq b i) (cases_eq b j)
  where
    len : length (swap l i j) ≡ length l
    len = length-swap l i j

    in_b : b < length l
    in_b = omega (arith, n, len)

    in_a : a < length l
    in_a = omega (arith, m, in_b)

    apart : a ≡ b → ⊥
    apart e = omega arith

    s : (get_or (swap l i j) i d ≡ get_or l j d) × (get_or (swap l i j) j d ≡ get_or l i d) × ((x : ℕ) → (x ≡ i → ⊥) → (x ≡ j → ⊥) → get_or (swap l i j) x d ≡ get_or l x d)
    s = swapped_from_swap l (swap l i j) i j d h k refl

    pick : (x y : ℕ) → x < length l → y < length l → (x ≡ y → ⊥) → R (get_or l x d) (get_or l y d)
    pick x y hx hy n = elim (cases_lt x y) [ inl q ↦ p x y d q hy | inr q ↦ flip (get_or l y d) (get_or l x d) (p y x d (omega arith) hx) ]

    put : (x y : ℕ) → get_or (swap l i j) a d ≡ get_or l x d → get_or (swap l i j) b d ≡ get_or l y d → R (get_or l x d) (get_or l y d) → R (get_or (swap l i j) a d) (get_or (swap l i j) b d)
    put x y e f r = let P : X → Type 0 = λ t. R t (get_or (swap l i j) b d) in subst P (sym e) (let Q : X → Type 0 = R (get_or l x d) in subst Q (sym f) r)

    to : (x : ℕ) {y : ℕ} → x ≡ y → get_or (swap l i j) x d ≡ get_or (swap l i j) y d
    to x e = ap (λ t. get_or (swap l i j) t d) e

    first : (a ≡ i) ⊎ (a ≡ i → ⊥) → (a ≡ j) ⊎ (a ≡ j → ⊥) → (b ≡ i) ⊎ (b ≡ i → ⊥) → (b ≡ j) ⊎ (b ≡ j → ⊥) → R (get_or (swap l i j) a d) (get_or (swap l i j) b d)
    first (inl ai) aj (inl bi) bj = absurd (apart (ai ∙ sym bi))
    first (inl ai) aj (inr bi) (inl bj) = put j i (to a ai ∙ s.0) (to b bj ∙ s.1) (pick j i k h (λ e. apart (ai ∙ sym e ∙ sym bj)))
    first (inl ai) aj (inr bi) (inr bj) = put j b (to a ai ∙ s.0) (s.2 b bi bj) (pick j b k in_b (λ e. bj (sym e)))
    first (inr ai) (inl aj) (inl bi) bj = put i j (to a aj ∙ s.1) (to b bi ∙ s.0) (pick i j h k (λ e. apart (aj ∙ sym e ∙ sym bi)))
    first (inr ai) (inl aj) (inr bi) (inl bj) = absurd (apart (aj ∙ sym bj))
    first (inr ai) (inl aj) (inr bi) (inr bj) = put i b (to a aj ∙ s.1) (s.2 b bi bj) (pick i b h in_b (λ e. bi (sym e)))
    first (inr ai) (inr aj) (inl bi) bj = put a j (s.2 a ai aj) (to b bi ∙ s.0) (pick a j in_a k aj)
    first (inr ai) (inr aj) (inr bi) (inl bj) = put a i (s.2 a ai aj) (to b bj ∙ s.1) (pick a i in_a h ai)
    first (inr ai) (inr aj) (inr bi) (inr bj) = put a b (s.2 a ai aj) (s.2 b bi bj) (pick a b in_a in_b apart)

pub all_pairs_permutation : {X : Type 0} (R : X → X → Type 0) → ((x y : X) → R x y → R y x) → (xs ys : List X) → IsPermutation xs ys → AllPairs R xs → AllPairs R ys
all_pairs_permutation R flip xs ys p h = IsPermutation-keeps xs (AllPairs R) h (swapped R flip) ys p
