-- Masks of several tests, and counts.
use Rattle.std.proofs.Common.{◌≡◌, ℕ, zero, suc, ◌+◌, ◌<◌, ◌≤◌, Bool, true, false, cond, ◌&&◌, ◌||◌, List, [], ◌∷◌, map, get_or, refl, sym, ap, ◌∙◌, arith, zero-add, add-zero, min, max, bit_and, bit_or}
use Rattle.std.proofs.lemmas.Simd.{bit_mask_l, ones-mask_l}
use Rattle.std.proofs.lemmas.Nat.Bits.{bit_at_and, bit_at_or, same_from_bits}
use Rattle.std.proofs.lemmas.List.Sums.{sum_by-append, count_by-le-length}
use Rattle.std.proofs.lemmas.List.FromFn.{length-range_with_len}
use Rattle.std.specs.Prelude.{count_ones}
use Rattle.std.specs.Int.Bits.{and_zero_l}
use Rattle.std.specs.List.{range_with_len, count_by}
use lib.Lanes.{mask_l}
use Rattle.lane_tests.specs.Columns.{mask_of}
use Rattle.lane_tests.specs.Above.{counting}
use Rattle.lane_tests.proofs.Hits.{range-add}

and_at : (p q : ℕ → Bool) (xs : List ℕ) (i : ℕ) → get_or (map p xs) i false && get_or (map q xs) i false ≡ get_or (map (λ x. p x && q x) xs) i false
and_at p q [] i = refl
and_at p q (x ∷ xs) zero = refl
and_at p q (x ∷ xs) (suc i) = and_at p q xs i

or_at : (p q : ℕ → Bool) (xs : List ℕ) (i : ℕ) → get_or (map p xs) i false || get_or (map q xs) i false ≡ get_or (map (λ x. p x || q x) xs) i false
or_at p q [] i = refl
or_at p q (x ∷ xs) zero = refl
or_at p q (x ∷ xs) (suc i) = or_at p q xs i

bit_min : (a b : Bool) → min (cond a 1 0) (cond b 1 0) ≡ cond (a && b) 1 0
bit_min true true = refl
bit_min true false = refl
bit_min false true = refl
bit_min false false = refl

bit_max : (a b : Bool) → max (cond a 1 0) (cond b 1 0) ≡ cond (a || b) 1 0
bit_max true true = refl
bit_max true false = refl
bit_max false true = refl
bit_max false false = refl

pub and_masks : (p q : ℕ → Bool) (at : ℕ) → bit_and (mask_of p at) (mask_of q at) ≡ mask_of (λ k. p k && q k) at
unfolding mask_of
and_masks p q at =
    let xs = range_with_len at 8 in
    same_from_bits _ _ (λ i. bit_at_and (mask_l (map p xs)) (mask_l (map q xs)) i
    ∙ (λ j. min (bit_mask_l (map p xs) i j) (bit_mask_l (map q xs) i j))
    ∙ bit_min (get_or (map p xs) i false) (get_or (map q xs) i false) ∙ ap (λ b. cond b 1 0) (and_at p q xs i) ∙ sym (bit_mask_l (map (λ k. p k && q k) xs) i))

pub or_masks : (p q : ℕ → Bool) (at : ℕ) → bit_or (mask_of p at) (mask_of q at) ≡ mask_of (λ k. p k || q k) at
unfolding mask_of
or_masks p q at =
    let xs = range_with_len at 8 in
    same_from_bits _ _ (λ i. bit_at_or (mask_l (map p xs)) (mask_l (map q xs)) i
    ∙ (λ j. max (bit_mask_l (map p xs) i j) (bit_mask_l (map q xs) i j))
    ∙ bit_max (get_or (map p xs) i false) (get_or (map q xs) i false) ∙ ap (λ b. cond b 1 0) (or_at p q xs i) ∙ sym (bit_mask_l (map (λ k. p k || q k) xs) i))

and_zero : (n : ℕ) → bit_and 0 n ≡ 0
and_zero n = and_zero_l n

-- ---- the bits of edges above, from those of its parts
module _ (c l a m : ℕ → Bool) (at : ℕ) where
  test : ℕ → Bool
  test k = c k && (l k || (a k && m k))

  split : (c l a m : Bool) → (c && l) || (c && a && m) ≡ c && (l || (a && m))
  split true true a m = refl
  split true false true m = refl
  split true false false m = refl
  split false l a m = refl

  absorbs : (s m : Bool) → s || (s && m) ≡ s
  absorbs true m = refl
  absorbs false m = refl

  pub none_above : 0 ≡ mask_of c at → 0 ≡ mask_of (λ k. c k && (l k || (a k && m k))) at
  none_above e = sym (and_zero (mask_of (λ k. l k || (a k && m k)) at)) ∙ ap (λ n. bit_and n (mask_of (λ k. l k || (a k && m k)) at)) e ∙ and_masks c (λ k. l k || (a k && m k)) at

  pub all_above : (cover less at_most lean : ℕ) → cover ≡ mask_of c at → less ≡ mask_of l at → at_most ≡ mask_of a at → lean ≡ mask_of m at
      → bit_or (bit_and cover less) (bit_and (bit_and cover at_most) lean) ≡ mask_of (λ k. c k && (l k || (a k && m k))) at
  all_above cover less at_most lean e f g h =
      (λ i. bit_or (bit_and (e i) (f i)) (bit_and (bit_and (e i) (g i)) (h i)))
      ∙ (λ i. bit_or (and_masks c l at i) (bit_and (and_masks c a at i) (mask_of m at)))
      ∙ ap (bit_or (mask_of (λ k. c k && l k) at)) (and_masks (λ k. c k && a k) m at)
      ∙ or_masks (λ k. c k && l k) (λ k. c k && a k && m k) at
      ∙ (λ i. mask_of (λ k. split (c k) (l k) (a k) (m k) i) at)

  pub no_ties : (cover less at_most : ℕ) → cover ≡ mask_of c at → less ≡ mask_of l at → at_most ≡ mask_of a at → bit_and cover at_most ≡ bit_and cover less
      → bit_and cover less ≡ mask_of (λ k. c k && (l k || (a k && m k))) at
  no_ties cover less at_most e f g t =
      let s : bit_and cover less ≡ mask_of (λ k. c k && l k) at = (λ i. bit_and (e i) (f i)) ∙ and_masks c l at in
      s ∙ sym (λ i. mask_of (λ k. absorbs (c k && l k) (m k) i) at) ∙ sym (or_masks (λ k. c k && l k) (λ k. c k && l k && m k) at)
      ∙ ap (bit_or (mask_of (λ k. c k && l k) at)) (sym (and_masks (λ k. c k && l k) m at))
      ∙ (λ i. bit_or (sym s i) (bit_and (sym s i) (mask_of m at)))
      ∙ (λ i. bit_or (bit_and cover less) (bit_and (sym t i) (mask_of m at)))
      ∙ all_above cover less at_most (mask_of m at) e f g refl

-- ---- counts
pub counting-add : (p : ℕ → Bool) (from m n : ℕ) → counting p from (m + n) ≡ counting p from m + counting p (from + m) n
unfolding counting
counting-add p from m n = ap (count_by p) (range-add from m n) ∙ sum_by-append (λ k. cond (p k) 1 0) (range_with_len from m) (range_with_len (from + m) n)

pub counting_le : (p : ℕ → Bool) (from n : ℕ) → counting p from n ≤ n
unfolding counting
counting_le p from n = omega (arith, count_by-le-length p (range_with_len from n), length-range_with_len from n)

pub ones_are : (p : ℕ → Bool) (at n : ℕ) → n ≡ mask_of p at → count_ones n ≡ counting p at 8
unfolding mask_of counting
ones_are p at n e = ap count_ones e ∙ ones-mask_l p (range_with_len at 8)

pub counting_yes : (p : ℕ → Bool) (at : ℕ) → p at ≡ true → counting p at 1 ≡ 1
unfolding counting
counting_yes p at t = rw t refl

pub counting_no : (p : ℕ → Bool) (at : ℕ) → p at ≡ false → counting p at 1 ≡ 0
unfolding counting
counting_no p at t = rw t refl

pub counting_none : (p : ℕ → Bool) (from : ℕ) → counting p from 0 ≡ 0
unfolding counting
counting_none p from = refl

-- of the numbers below `at` so many pass
pub record HasCounted (p : ℕ → Bool) (at end total : ℕ) : Type 0 where
  pub within : at ≤ end
  pub count : total ≡ counting p 0 at

pub counted_part : (p : ℕ → Bool) (at n end total next : ℕ) → HasCounted p at end total → at + n ≤ end → next ≡ total + counting p at n → HasCounted p (at + n) end next
counted_part p at n end total next h k e = record { within = k; count = e ∙ ap (λ m. m + counting p at n) h.count ∙ sym (counting-add p 0 at n ∙ ap (λ k. counting p 0 at + counting p k n) (zero-add at)) }

pub counted_small : (p : ℕ → Bool) (at end total : ℕ) → HasCounted p at end total → total ≤ at
counted_small p at end total h = omega (arith, h.count, counting_le p 0 at)

pub counted_none : (p : ℕ → Bool) (end : ℕ) → HasCounted p 0 end 0
counted_none p end = record { within = omega arith; count = sym (counting_none p 0) }

pub counted_eight : (p : ℕ → Bool) (at end total mask ones : ℕ) → HasCounted p at end total → at + 8 ≤ end → mask ≡ mask_of p at → ones ≡ count_ones mask → HasCounted p (at + 8) end (total + ones)
counted_eight p at end total mask ones h k e f = counted_part p at 8 end total (total + ones) h k (ap (λ n. total + n) (f ∙ ones_are p at mask e))

pub counted_yes : (p : ℕ → Bool) (at end total : ℕ) → HasCounted p at end total → at < end → p at ≡ true → HasCounted p (at + 1) end (total + 1)
counted_yes p at end total h k t = counted_part p at 1 end total (total + 1) h (omega arith) (ap (λ n. total + n) (sym (counting_yes p at t)))

pub counted_no : (p : ℕ → Bool) (at end total : ℕ) → HasCounted p at end total → at < end → p at ≡ false → HasCounted p (at + 1) end total
counted_no p at end total h k t = counted_part p at 1 end total total h (omega arith) (sym (rw (counting_no p at t) (add-zero total)))

pub counted_all : (p : ℕ → Bool) (at end total : ℕ) → HasCounted p at end total → end ≤ at → total ≡ counting p 0 end
counted_all p at end total h k = let e : end ≡ at = omega (arith, h.within) in rw e h.count

pub ones_few : (p : ℕ → Bool) (at mask ones : ℕ) → mask ≡ mask_of p at → ones ≡ count_ones mask → ones ≤ 8
ones_few p at mask ones e f = omega (arith, f ∙ ones_are p at mask e, counting_le p at 8)
