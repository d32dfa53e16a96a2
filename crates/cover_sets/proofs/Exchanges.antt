-- The features in one of two sets and not in both.
use Rattle.std.proofs.Common.{◌≡◌, ◌⊎◌, inl, inr, ℕ, zero, suc, ◌+◌, ◌*◌, ◌/◌, ◌^◌, ◌<◌, List, [], ◌∷◌, ◌++◌, Bool, true, false, refl, sym, ap, ◌∙◌, arith, ⊎_elim}
use Rattle.std.specs.List.{All}
use Rattle.std.specs.Prelude.{◌||◌, ◌==◌}
use Rattle.std.proofs.lemmas.Bool.{eqb-true}
use Rattle.std.proofs.lemmas.List.Kept.{AllPairs-filter}
use Rattle.geom.proofs.Lists.{In, contains_in, in_contains}
use Rattle.geom.proofs.ListOrder.{same_ascending}
use Rattle.cover_law.specs.Cover.{has, numbers_from}
use Rattle.cover_law.specs.Rows.{beyond, differ}
use Rattle.cover_law.proofs.Covers.{ascend, filtered, numbers_in, passes}
use Rattle.cover_law.proofs.RoundedBorders.{has_in, in_has}
use Rattle.cover_sets.specs.Blocks.{InBlock}
use Rattle.cover_sets.specs.Exchange.{IsExchange}
use Rattle.cover_sets.proofs.Blocks.{at_block, to_block}
use Rattle.cover_sets.proofs.Lists.{Ascend, of_all}

or_assoc : (a b c : Bool) → a || (b || c) ≡ (a || b) || c
or_assoc true b c = refl
or_assoc false b c = refl

pub has-append : (f : ℕ) (xs ys : List ℕ) → has f (xs ++ ys) ≡ has f xs || has f ys
has-append f [] ys = refl
has-append f (x ∷ xs) ys = ap (λ (t : Bool). (f == x) || t) (has-append f xs ys) ∙ or_assoc (f == x) (has f xs) (has f ys)

pub has_not : (f : ℕ) (xs : List ℕ) → (In f xs → ⊥) → has f xs ≡ false
has_not f xs n = by (has f xs) refl
  where
    by : (t : Bool) → has f xs ≡ t → has f xs ≡ false
    by true e = absurd (n (has_in f xs e))
    by false e = e

-- ---- with nothing, and with itself
-- ---- what differs is in one of both
one_of : (s t : Bool) → differ s t ≡ true → (s ≡ true) ⊎ (t ≡ true)
one_of true t h = inl refl
one_of false true h = inr refl
one_of false false h = absurd (cc)

pub exchange_in : (s t r : List ℕ) → IsExchange s t r → (f : ℕ) → In f r → In f s ⊎ In f t
exchange_in s t r h f i = ⊎_elim (λ e. inl (has_in f s e)) (λ e. inr (has_in f t e)) (one_of (has f s) (has f t) (sym (h f) ∙ in_has f r i))

pub exchange_block : (l p : ℕ) (s t r : List ℕ) → IsExchange s t r → InBlock l p s → InBlock l p t → InBlock l p r
exchange_block l p s t r h a b = to_block l p r (λ f i. ⊎_elim (λ j. at_block l p s a f j) (λ j. at_block l p t b f j) (exchange_in s t r h f i))

-- ---- both halves of a block
low_alone : (a b c d x y : Bool) → c ≡ false → d ≡ false → x ≡ differ a b → y ≡ differ c d → x || y ≡ differ (a || c) (b || d)
low_alone true true c d x y h k m n = grind arith
low_alone true false c d x y h k m n = grind arith
low_alone false true c d x y h k m n = grind arith
low_alone false false c d x y h k m n = grind arith

high_alone : (a b c d x y : Bool) → a ≡ false → b ≡ false → x ≡ differ a b → y ≡ differ c d → x || y ≡ differ (a || c) (b || d)
high_alone a b true true x y h k m n = grind arith
high_alone a b true false x y h k m n = grind arith
high_alone a b false true x y h k m n = grind arith
high_alone a b false false x y h k m n = grind arith

same_or_not : (m n : ℕ) → (m ≡ n) ⊎ (¬ (m ≡ n))
same_or_not zero zero = inl refl
same_or_not zero (suc n) = inr (λ e. omega arith)
same_or_not (suc m) zero = inr (λ e. omega arith)
same_or_not (suc m) (suc n) = ⊎_elim (λ e. inl (ap suc e)) (λ d. inr (λ e. d (omega arith))) (same_or_not m n)

module _ (level p : ℕ) (low_s high_s low_t high_t low_r high_r : List ℕ)
    (a : InBlock level (2 * p) low_s) (b : InBlock level (2 * p + 1) high_s) (c : InBlock level (2 * p) low_t) (d : InBlock level (2 * p + 1) high_t)
    (h : IsExchange low_s low_t low_r) (k : IsExchange high_s high_t high_r) where
  both_ways : (f : ℕ) → has f low_r || has f high_r ≡ differ (has f low_s || has f high_s) (has f low_t || has f high_t)
  both_ways f = ⊎_elim
      (λ e. low_alone (has f low_s) (has f low_t) (has f high_s) (has f high_t) (has f low_r) (has f high_r)
      (has_not f high_s (λ i. other e (at_block level (2 * p + 1) high_s b f i))) (has_not f high_t (λ i. other e (at_block level (2 * p + 1) high_t d f i))) (h f) (k f))
      (λ n. high_alone (has f low_s) (has f low_t) (has f high_s) (has f high_t) (has f low_r) (has f high_r)
      (has_not f low_s (λ i. n (at_block level (2 * p) low_s a f i))) (has_not f low_t (λ i. n (at_block level (2 * p) low_t c f i))) (h f) (k f))
      (same_or_not (f / 2 ^ level) (2 * p))
    where
      other : f / 2 ^ level ≡ 2 * p → f / 2 ^ level ≡ 2 * p + 1 → ⊥
      other e m = no (sym e ∙ m)
        where
          no : 2 * p ≡ 2 * p + 1 → ⊥
          no q = omega arith

  pub exchange_both : IsExchange (low_s ++ high_s) (low_t ++ high_t) (low_r ++ high_r)
  exchange_both f = has-append f low_r high_r ∙ both_ways f ∙ ap (λ (t : Bool). differ t (has f low_t || has f high_t)) (sym (has-append f low_s high_s)) ∙ ap (λ (t : Bool). differ (has f (low_s ++ high_s)) t) (sym (has-append f low_t high_t))

-- ---- one of two features
module _ (f g : ℕ) (apart : f < g) where
  not_both : (x : ℕ) → (x == f) ≡ true → (x == g) ≡ true → ⊥
  not_both x h k = two (eqb-true x f h) (eqb-true x g k)
    where
      two : x ≡ f → x ≡ g → ⊥
      two a b = omega (arith, apart, a, b)

  other_is : (a b : Bool) → (a ≡ true → b ≡ true → ⊥) → b || false ≡ differ (a || false) (a || (b || false))
  other_is true true n = absurd (n refl refl)
  other_is true false n = refl
  other_is false true n = refl
  other_is false false n = refl

  first_is : (a b : Bool) → (a ≡ true → b ≡ true → ⊥) → a || false ≡ differ (b || false) (a || (b || false))
  first_is true true n = absurd (n refl refl)
  first_is true false n = refl
  first_is false true n = refl
  first_is false false n = refl

  pub exchange_first : IsExchange (f ∷ []) (f ∷ g ∷ []) (g ∷ [])
  exchange_first x = other_is (x == f) (x == g) (not_both x)

  pub exchange_second : IsExchange (g ∷ []) (f ∷ g ∷ []) (f ∷ [])
  exchange_second x = first_is (x == f) (x == g) (not_both x)

-- ---- the definition's word
less_itself : (n : ℕ) → n < n → ⊥
less_itself n h = omega arith

less_trans : (l m n : ℕ) → l < m → m < n → l < n
less_trans l m n h k = omega arith

pub exchange_is_beyond : (count : ℕ) (s t r : List ℕ) → Ascend r → IsExchange s t r → All (λ f. f < count) s → All (λ f. f < count) t → r ≡ beyond count s t
exchange_is_beyond count s t r up h a b = same_ascending (λ (f g : ℕ). f < g) less_itself less_trans r (beyond count s t) up
    (AllPairs-filter (λ (f g : ℕ). f < g) (λ f. differ (has f s) (has f t)) (numbers_from 0 count) (ascend 0 count))
    (λ f i. let j = contains_in r f i in
    let l : f < count = ⊎_elim (λ m. of_all (λ (g : ℕ). g < count) s a f m) (λ m. of_all (λ (g : ℕ). g < count) t b f m) (exchange_in s t r h f j) in
    in_contains (beyond count s t) f (passes (λ g. differ (has g s) (has g t)) (numbers_from 0 count) f (numbers_in 0 count f (omega arith) (omega arith)) (sym (h f) ∙ in_has f r j)))
    (λ f i. let j = filtered (λ g. differ (has g s) (has g t)) (numbers_from 0 count) f (contains_in (beyond count s t) f i) in in_contains r f (has_in f r (h f ∙ j.1)))
