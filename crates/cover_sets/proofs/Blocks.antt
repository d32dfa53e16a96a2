-- Blocks of features, and their halves.
use Rattle.std.proofs.Common.{◌≡◌, ◌⊎◌, inl, inr, ℕ, zero, suc, ◌+◌, ◌*◌, ◌/◌, ◌%◌, ◌^◌, ◌<◌, ◌≤◌, List, [], ◌++◌, sym, ◌∙◌, arith, subst, ⊎_elim}
use Rattle.std.specs.List.{All}
use Rattle.geom.proofs.Lists.{In, in_append}
use Rattle.geom.proofs.Owners.{all_in}
use Rattle.cover_sets.specs.Blocks.{InBlock, Splits}
use Rattle.cover_sets.proofs.Lists.{of_all}
use Rattle.cover_sets.proofs.Numbers.{above_half, above_other, coarser, is_even, is_other}

abbrev pub in_block : ℕ → ℕ → ℕ → Type 0
in_block l p f = f / 2 ^ l ≡ p

pub at_block : (l p : ℕ) (set : List ℕ) → InBlock l p set → (f : ℕ) → In f set → f / 2 ^ l ≡ p
at_block l p set h f i = of_all (in_block l p) set h f i

pub to_block : (l p : ℕ) (set : List ℕ) → ((f : ℕ) → In f set → f / 2 ^ l ≡ p) → InBlock l p set
to_block l p set h = all_in (in_block l p) set h

-- a block is named by any of its features, and lies in a block of more bits
pub block_of : (l m p : ℕ) (set : List ℕ) (x : ℕ) → l ≤ m → InBlock l p set → In x set → InBlock m (x / 2 ^ m) set
block_of l m p set x le h i = to_block m (x / 2 ^ m) set (λ f j. coarser l m f x le (at_block l p set h f j ∙ sym (at_block l p set h x i)))

-- the same where the block of fewer bits is named by the feature
pub block_more : (l m : ℕ) (set : List ℕ) (x : ℕ) → l ≤ m → InBlock l (x / 2 ^ l) set → InBlock m (x / 2 ^ m) set
block_more l m set x le h = to_block m (x / 2 ^ m) set (λ f j. coarser l m f x le (at_block l (x / 2 ^ l) set h f j))

-- ---- a set that splits
module _ (levels : ℕ) (low high : List ℕ) (s : Splits levels low high) where
  pub whole : InBlock levels s.prefix (low ++ high)
  whole = to_block levels s.prefix (low ++ high) (λ f i. subst (λ (n : ℕ). f / 2 ^ n ≡ s.prefix) (sym s.levels_is)
      (⊎_elim (λ j. above_half s.level s.prefix f (at_block s.level (2 * s.prefix) low s.low_in f j)) (λ j. above_other s.level s.prefix f (at_block s.level (2 * s.prefix + 1) high s.high_in f j)) (in_append low high f i)))

  -- it lies in no block of fewer bits
  pub no_less : (f g l p : ℕ) → In f low → In g high → f / 2 ^ l ≡ p → g / 2 ^ l ≡ p → levels ≤ l
  no_less f g l p i j h k = ⊎_elim (λ m. absurd (two (coarser l s.level f g (let e = s.levels_is in omega arith) (h ∙ sym k)))) (λ m. m) (less l levels)
    where
      less : (a b : ℕ) → (a < b) ⊎ (b ≤ a)
      less a zero = inr (omega arith)
      less zero (suc b) = inl (omega arith)
      less (suc a) (suc b) = ⊎_elim (λ q. inl (omega arith)) (λ q. inr (omega arith)) (less a b)

      two : f / 2 ^ s.level ≡ g / 2 ^ s.level → ⊥
      two e = apart (sym (at_block s.level (2 * s.prefix) low s.low_in f i) ∙ e ∙ at_block s.level (2 * s.prefix + 1) high s.high_in g j)
        where
          apart : 2 * s.prefix ≡ 2 * s.prefix + 1 → ⊥
          apart q = omega arith

-- ---- a set in one half of a block, by one of its features
module _ (level p x : ℕ) (set : List ℕ) (own : InBlock level (x / 2 ^ level) set) (above : x / 2 ^ (level + 1) ≡ p) where
  pub in_low : x / 2 ^ level % 2 ≡ 0 → InBlock level (2 * p) set
  in_low e = subst (λ (q : ℕ). InBlock level q set) (is_even level p x above e) own

  pub in_high : ¬ (x / 2 ^ level % 2 ≡ 0) → InBlock level (2 * p + 1) set
  in_high e = subst (λ (q : ℕ). InBlock level q set) (is_other level p x above e) own

-- features of 31 bits
pub all_in_one : (set : List ℕ) → All (λ f. f < 2147483647) set → InBlock 31 0 set
all_in_one set h = to_block 31 0 set (λ f i. none (of_all (λ (g : ℕ). g < 2147483647) set h f i))
  where
    none : {f : ℕ} → f < 2147483647 → f / 2147483648 ≡ 0
    none {f} l = omega arith
