-- Strips: how many there are, the strip of a number, and the boxes that have a whole x in a strip.
use Rattle.std.proofs.Common.{◌≡◌, ℕ, ◌+◌, ◌-◌, ◌*◌, ◌/◌, ◌^◌, ◌<◌, ◌≤◌, List, sym, ap, ◌∙◌, subst, arith, ℤ, pos, negsuc, ◌+ℤ◌, ◌-ℤ◌, ◌*ℤ◌, nat_abs, w32, w64, Fits, FitsSigned, to_z, of_z}
use Rattle.std.specs.Prelude.{◌≤ℤ◌, ◌<ℤ◌, Some, slice_get}
use Rattle.std.specs.Int.{int_div_euclid}
use Rattle.std.proofs.lemmas.Int.{ints, by_lt_z}
use Rattle.std.proofs.lemmas.Nat.{div-add-mod', mul-le}
use Rattle.geom.specs.Limit.{IsWithin}
use Rattle.geom.specs.declared.rect.Rect.{Rect}
use Rattle.geom.proofs.Numbers.{le_le, itself, weak}
use Rattle.tiling.specs.Index.{AreIndexed, AreReaching}
use Rattle.tiling.specs.Strips.{HasStripRoom, IsFill, IsInStrip, MeetsStrip, Striped, strip_count}
use Rattle.grid.specs.Tiles.{steps}
use Rattle.grid.proofs.Columns.{between, column_from_steps, columns_from, inside, pos_same, steps_are, steps_from_column}

-- ---- how many strips
pub count_is : (low high : ℤ) (width r : ℕ) → low ≤ℤ high → pos r ≡ steps low width high +ℤ pos 1 → r ≡ nat_abs (steps low width high) + 1
count_is low high width r order e =
    let w = between low high order in
    columns_from low high width r w.width w.is e ∙ ap (λ n. n + 1) (sym (ap nat_abs (steps_are low high w.width width w.is)))

count_back : (low high : ℤ) (width : ℕ) → low ≤ℤ high → pos (nat_abs (steps low width high) + 1) ≡ steps low width high +ℤ pos 1
count_back low high width order =
    let w = between low high order in
    let e = steps_are low high w.width width w.is in
    rw e (more (w.width / width))
  where
    more : (n : ℕ) → pos (n + 1) ≡ pos n +ℤ pos 1
    more n = omega (arith, ints)

-- the strip of a number from low to high is one of them
pub strip_within : (low high x : ℤ) (width strip : ℕ) → 0 < width → low ≤ℤ x → x ≤ℤ high → steps low width x ≡ pos strip → strip < nat_abs (steps low width high) + 1
strip_within low high x width strip some a b e =
    let i = inside low high x width (nat_abs (steps low width high) + 1) some a b (count_back low high width (le_le low x high a b)) in
    let n : i.number ≡ strip = pos_same _ _ (sym i.is ∙ e) in
    omega (arith, i.within)

-- a strip begins at or before high
pub strip_room : (low high : ℤ) (width strip : ℕ) → HasStripRoom low high width → strip < nat_abs (steps low width high) + 1 → strip * width ≤ 2 ^ 29
strip_room low high width strip h l =
    let w = between low high h.order in
    let e : nat_abs (steps low width high) ≡ w.width / width = ap nat_abs (steps_are low high w.width width w.is) in
    let m : strip * width ≤ w.width / width * width = mul-le strip width (w.width / width) width (omega (arith, l, e)) (omega arith) in
    let n : w.width ≤ 2 ^ 29 = near low high w.width h.low_near h.high_near w.is in
    omega (arith, m, n, div-add-mod' w.width width)
  where
    near : (low high : ℤ) (w : ℕ) → IsWithin (2 ^ 28) low → IsWithin (2 ^ 28) high → pos w ≡ high -ℤ low → w ≤ 2 ^ 29
    near low high w h k e = omega (arith, ints)

-- ---- the strip of half a number
half_after : (x z : ℤ) → (pos 2 *ℤ z) ≤ℤ x → z ≤ℤ int_div_euclid x (pos 2)
half_after (pos n) z h = omega (arith, ints)
half_after (negsuc n) z h = omega (arith, ints)

half_before : (x z : ℤ) → x ≤ℤ (pos 2 *ℤ z) → int_div_euclid x (pos 2) ≤ℤ z
half_before (pos n) z h = omega (arith, ints)
half_before (negsuc n) z h = omega (arith, ints)

pub within_count : (s t : Striped) (x : ℤ) (strip : ℕ) → s ≡ t → 0 < s.width → (pos 2 *ℤ t.low) ≤ℤ x → x ≤ℤ (pos 2 *ℤ t.high) → IsInStrip t strip (int_div_euclid x (pos 2)) → strip < strip_count t
within_count s t x strip e some a b v =
    strip_within t.low t.high (int_div_euclid x (pos 2)) t.width strip (subst (λ (s : Striped). 0 < s.width) e some) (half_after x t.low a) (half_before x t.high b) v

-- ---- what the code computes
pub first_fits : (low : ℤ) (n : ℕ) → FitsSigned w32 low → IsWithin (2 ^ 28) low → n ≤ 2 ^ 29 → FitsSigned w32 (to_z w32 (of_z w32 low) +ℤ to_z w32 n)
first_fits low n f h l = omega (arith, ints)

pub first_is : (low : ℤ) (n : ℕ) → FitsSigned w32 low → IsWithin (2 ^ 28) low → n ≤ 2 ^ 29 → to_z w32 (of_z w32 (to_z w32 (of_z w32 low) +ℤ to_z w32 n)) ≡ low +ℤ pos n
first_is low n f h l = omega (arith, ints)

pub last_is : (low a b : ℤ) (n w : ℕ) → IsWithin (2 ^ 28) low → n ≤ 2 ^ 29 → 0 < w → Fits w32 w → a ≡ low +ℤ pos n → b ≡ pos w → to_z w64 (of_z w64 (to_z w64 (of_z w64 (to_z w64 (of_z w64 a) +ℤ to_z w64 (of_z w64 b))) -ℤ pos 1)) ≡ low +ℤ pos (n + w - 1)
last_is low a b n w h l s f e d = omega (arith, ints)

-- ---- what is found in a strip
record Shared (a b c d : ℤ) : Type 0 where
  at : ℤ
  a_to : a ≤ℤ at
  to_b : at ≤ℤ b
  c_to : c ≤ℤ at
  to_d : at ≤ℤ d

-- two intervals of which neither is past the other have a common number
shared : (a b c d : ℤ) → a ≤ℤ b → c ≤ℤ d → a ≤ℤ d → c ≤ℤ b → Shared a b c d
shared a b c d h k l m = by_lt_z a c
    (λ n. record { at = c; a_to = weak a c n; to_b = m; c_to = itself c; to_d = k })
    (λ n. record { at = a; a_to = itself a; to_b = h; c_to = n; to_d = l })

in_strip : (low x : ℤ) (width strip : ℕ) → 0 < width → (low +ℤ pos (strip * width)) ≤ℤ x → x ≤ℤ (low +ℤ pos (strip * width + width - 1)) → steps low width x ≡ pos strip
in_strip low x width strip s h k = steps_from_column low x width strip s (record { from = h; to = past low x (strip * width) width s k })
  where
    past : (low x : ℤ) (a w : ℕ) → 0 < w → x ≤ℤ (low +ℤ pos (a + w - 1)) → x <ℤ (low +ℤ pos (a + w))
    past low x a w s h = omega (arith, ints)

pub order_of_ends : (low : ℤ) (width strip : ℕ) → 0 < width → (low +ℤ pos (strip * width)) ≤ℤ (low +ℤ pos (strip * width + width - 1))
order_of_ends low width strip s = ordered low (strip * width) width s
  where
    ordered : (low : ℤ) (a w : ℕ) → 0 < w → (low +ℤ pos a) ≤ℤ (low +ℤ pos (a + w - 1))
    ordered low a w s = omega (arith, ints)

-- the first and the last number of a strip
abbrev pub first_in : Striped → ℕ → ℤ
first_in s strip = s.low +ℤ pos (strip * s.width)

abbrev pub last_in : Striped → ℕ → ℤ
last_in s strip = s.low +ℤ pos (strip * s.width + s.width - 1)

module _ (s : Striped) (strip : ℕ) (some : 0 < s.width) where
  meets : (boxes : List Rect) (number : ℕ) → (b : Rect) × (slice_get boxes number ≡ Some b) × (b.lo.x ≤ℤ last_in s strip) × (first_in s strip ≤ℤ b.hi.x) → MeetsStrip s strip boxes number
  meets boxes number (b, e, i, j) =
      let x = shared b.lo.x b.hi.x (first_in s strip) (last_in s strip) b.wide (order_of_ends s.low s.width strip some) i j in
      (b, e, (x.at, x.a_to, x.to_b, in_strip s.low x.at s.width strip some x.c_to x.to_d))

  reaches : (boxes : List Rect) (number : ℕ) → MeetsStrip s strip boxes number → (b : Rect) × (slice_get boxes number ≡ Some b) × (b.lo.x ≤ℤ last_in s strip) × (first_in s strip ≤ℤ b.hi.x)
  reaches boxes number (b, e, (x, i, j, k)) =
      let c = column_from_steps s.low x s.width strip some k in
      (b, e, before s.low x (strip * s.width) s.width b.lo.x i c.to, le_le (first_in s strip) x b.hi.x c.from j)
    where
      before : (low x : ℤ) (a w : ℕ) (l : ℤ) → l ≤ℤ x → x <ℤ (low +ℤ pos (a + w)) → l ≤ℤ (low +ℤ pos (a + w - 1))
      before low x a w l i h = omega (arith, ints)

  found_is : (boxes : List Rect) (out : List ℕ) → AreReaching boxes (first_in s strip) (last_in s strip) out → IsFill s strip boxes out
  found_is boxes out r = record { ascending = r.ascending; exact = λ number. (λ c. meets boxes number ((r.exact number).0 c), λ m. (r.exact number).1 (reaches boxes number m)) }

pub fill_from : (s t : Striped) (strip : ℕ) → s ≡ t → 0 < s.width → (left right : ℤ) → left ≡ first_in s strip → right ≡ last_in s strip
    → (out : List ℕ) → ((boxes : List Rect) → AreIndexed boxes s.items → AreReaching boxes left right out) → (boxes : List Rect) → AreIndexed boxes t.items → IsFill t strip boxes out
fill_from s t strip e some left right p q out found =
    subst (λ (t : Striped). (boxes : List Rect) → AreIndexed boxes t.items → IsFill t strip boxes out) e
    (λ boxes x. found_is s strip some boxes out (subst (λ z. AreReaching boxes z (last_in s strip) out) p (subst (λ z. AreReaching boxes left z out) q (found boxes x))))
