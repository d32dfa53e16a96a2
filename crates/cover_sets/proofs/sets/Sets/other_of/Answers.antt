-- The set of one of two features is exchanged for that of the other one.
use Rattle.std.proofs.Common.{◌≡◌, inr, ℕ, ◌+◌, ◌-◌, ◌<◌, List, [], ◌∷◌, length, get_or, sym, subst, arith}
use Rattle.std.specs.List.{All}
use Rattle.cover_sets.specs.Exchange.{IsExchange, IsExchanged}
use Rattle.cover_sets.specs.Sets.{IsNumber, set_of}
use Rattle.cover_sets.proofs.Exchanges.{exchange_first, exchange_second}
use Rattle.cover_sets.proofs.Lists.{Ascend}
use Rattle.cover_sets.proofs.Numbered.{of_alone}
use Rattle.cover_sets.proofs.sets.Sets.other_of.Goals as goal

alone_set : (sets : List (List ℕ)) (n f : ℕ) → f < 2147483647 → n ≡ 2147483648 + f → set_of sets n ≡ f ∷ []
alone_set sets n f h e = let k : n - 2147483648 ≡ f = omega arith in subst (λ (m : ℕ). set_of sets n ≡ m ∷ []) k (of_alone sets n (omega arith) (omega arith))

is_number : (sets : List (List ℕ)) (n f : ℕ) → f < 2147483647 → n ≡ 2147483648 + f → IsNumber sets n
is_number sets n f h e = inr (omega arith, omega arith)

-- one of them, where the set is that of the other one
exchanged : (sets : List (List ℕ)) (m n e f : ℕ) (xs : List ℕ) → e < 2147483647 → f < 2147483647 → m ≡ 2147483648 + e → n ≡ 2147483648 + f → IsExchange (e ∷ []) xs (f ∷ []) → IsExchanged sets m xs sets n
exchanged sets m n e f xs he hf em en h = (
  is_number sets n f hf en,
  subst (λ (s : List ℕ). IsExchange s xs (set_of sets n)) (sym (alone_set sets m e he em)) (subst (λ (r : List ℕ). IsExchange (e ∷ []) xs r) (sym (alone_set sets n f hf en)) h),
)

module _ (xs : List ℕ) (two : length xs ≡ 2) (up : Ascend xs) (below : All (λ f. f < 2147483647) xs) where
  first_then : (sets : List (List ℕ)) (m n d e : ℕ) → m ≡ 2147483648 + get_or xs 0 d → n ≡ 2147483648 + get_or xs 1 e → IsExchanged sets m xs sets n
  first_then sets m n d e em en = by xs two up below em en
    where
      by : (xs : List ℕ) → length xs ≡ 2 → Ascend xs → All (λ f. f < 2147483647) xs → m ≡ 2147483648 + get_or xs 0 d → n ≡ 2147483648 + get_or xs 1 e → IsExchanged sets m xs sets n
      by [] l u b em en = absurd (omega (arith, l))
      by (f ∷ []) l u b em en = absurd (omega (arith, l))
      by (f ∷ g ∷ []) l u b em en = exchanged sets m n f g (f ∷ g ∷ []) (b 0 0 (omega arith)) (b 1 0 (omega arith)) em en (exchange_first f g (u 0 1 0 (omega arith) (omega arith)))
      by (f ∷ g ∷ h ∷ rest) l u b em en = absurd (omega (arith, l))

  second_then : (sets : List (List ℕ)) (m n d e : ℕ) → m ≡ 2147483648 + get_or xs 1 d → n ≡ 2147483648 + get_or xs 0 e → IsExchanged sets m xs sets n
  second_then sets m n d e em en = by xs two up below em en
    where
      by : (xs : List ℕ) → length xs ≡ 2 → Ascend xs → All (λ f. f < 2147483647) xs → m ≡ 2147483648 + get_or xs 1 d → n ≡ 2147483648 + get_or xs 0 e → IsExchanged sets m xs sets n
      by [] l u b em en = absurd (omega (arith, l))
      by (f ∷ []) l u b em en = absurd (omega (arith, l))
      by (f ∷ g ∷ []) l u b em en = exchanged sets m n g f (f ∷ g ∷ []) (b 1 0 (omega arith)) (b 0 0 (omega arith)) em en (exchange_second f g (u 0 1 0 (omega arith) (omega arith)))
      by (f ∷ g ∷ h ∷ rest) l u b em en = absurd (omega (arith, l))
