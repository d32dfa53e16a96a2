-- Places as the bits of a number: which bits are set after a step.
use Rattle.std.proofs.Common.{◌≡◌, ◌≢◌, ℕ, ◌-◌, ◌*◌, ◌%◌, ◌^◌, ◌<◌, ◌≤◌, ◌↔◌, sym, ap, ◌∙◌, arith, min, inl, inr, w64, bit_and}
use Rattle.std.specs.Int.{bit_at, bit_not, trailing_zeros}
use Rattle.std.proofs.lemmas.Nat.{and_le_l, pow_below}
use Rattle.std.proofs.lemmas.Nat.Bits.{bit_at_and, bit_at_not, bit_at_ones, bit_at_ones_above, bit_at_above, bit_at-lt, bit_at-trailing_zeros, bit_at_clear_same, bit_at_clear_other}
use Rattle.std.proofs.lemmas.Bool.{cases_eq, cases_lt}
use Rattle.box_lanes.specs.Places.{IsPlace}

-- a place of a number of 64 bits is below 64
pub place_below : (n k : ℕ) → n < 2 ^ 64 → IsPlace n k → k < 64
place_below n k l h = elim (cases_lt k 64) [
  | inl m ↦ m
  | inr m ↦ let e = bit_at_above n 64 k l m in absurd (let b = h.bit in omega arith)
]

zero_is_one : {m n : ℕ} → m ≡ 0 → m ≡ n → n ≡ 1 → ⊥
zero_is_one a b c = omega arith

-- ---- the first one
module _ (n : ℕ) (some : 0 < n) (small : n < 2 ^ 64) where
  abbrev first : ℕ
  first = trailing_zeros w64 n

  abbrev rest : ℕ
  rest = bit_and n (bit_not w64 (1 * 2 ^ first % 2 ^ 64))

  within : first < 64
  within = (bit_at-trailing_zeros w64 n some small).0

  pub first_place : IsPlace n (trailing_zeros w64 n)
  first_place = record { bit = (bit_at-trailing_zeros w64 n some small).1 }

  gone : bit_at rest first ≡ 0
  gone = bit_at_clear_same w64 n first within

  pub rest_fewer : bit_and n (bit_not w64 (1 * 2 ^ trailing_zeros w64 n % 2 ^ 64)) < n
  rest_fewer = elim (cases_eq rest n) [
    | inl e ↦ absurd (let a = gone in let b = first_place.bit in let c : bit_at rest first ≡ bit_at n first = ap (λ m. bit_at m first) e in zero_is_one a c b)
    | inr e ↦ let a = and_le_l n (bit_not w64 (1 * 2 ^ first % 2 ^ 64)) in omega arith
  ]

  pub rest_places : (k : ℕ) → IsPlace (bit_and n (bit_not w64 (1 * 2 ^ trailing_zeros w64 n % 2 ^ 64))) k ↔ (IsPlace n k × (k ≢ trailing_zeros w64 n))
  rest_places k = (to, from)
    where
      to : IsPlace rest k → IsPlace n k × (k ≢ first)
      to h =
          let l = place_below rest k (let a = rest_fewer in omega (arith, small)) h in
          let other : k ≢ first = λ e. zero_is_one gone (ap (bit_at rest) (sym e)) h.bit in
          (record { bit = sym (bit_at_clear_other w64 n first within k l other) ∙ h.bit }, other)

      from : IsPlace n k × (k ≢ first) → IsPlace rest k
      from (h, other) = record { bit = bit_at_clear_other w64 n first within k (place_below n k small h) other ∙ h.bit }

-- ---- so many from the lowest on
pub power_fits : (n : ℕ) → n ≤ 32 → 1 * 2 ^ n % 2 ^ 64 ≡ 2 ^ n
power_fits n l = let a = pow_below n 64 (omega arith) in omega arith

pub ones_places : (n : ℕ) → n ≤ 32 → (k : ℕ) → IsPlace (1 * 2 ^ n % 2 ^ 64 - 1) k ↔ (k < n)
ones_places n l k = rw (power_fits n l) (
  (λ h. elim (cases_lt k n) [
    | inl m ↦ m
    | inr m ↦ absurd (let a = bit_at_ones_above n k m in let b = h.bit in omega arith)
  ]),
  (λ m. record { bit = bit_at_ones n k m }),
)

-- ---- those of some places that are none of others
pub both_bits : (a b : ℕ) → min a b ≡ 1 → a < 2 → b < 2 → (a ≡ 1) × (b ≡ 1)
both_bits a b e l m = (omega arith, omega arith)

pub without : (some others k : ℕ) → others < 2 ^ 64 → k < 64 → IsPlace (bit_and some (2 ^ 64 - 1 - others)) k ↔ (IsPlace some k × (bit_at others k ≡ 0))
without some others k l m =
    let inverse = bit_at_not w64 others k l m in
    let both = bit_at_and some (2 ^ 64 - 1 - others) k in
    let below = bit_at-lt others k in (
      (λ h.
          let r = both_bits _ _ (sym both ∙ h.bit) (bit_at-lt some k) (bit_at-lt (2 ^ 64 - 1 - others) k) in
          (record { bit = r.0 }, (let b = r.1 in omega arith))),
      (λ (h, e). record { bit = both ∙ (let a = h.bit in omega arith) }),
    )
