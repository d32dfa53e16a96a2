-- The number that digits write, up to a ceiling.
use Rattle.std.proofs.Common.{◌≡◌, ◌∙◌, ◌<◌, ◌≤◌, ◌+◌, ◌-◌, ◌*◌, ℕ, List, ap, ap₂, arith, get_or, inl, inr, length, min, sym, take}
use Rattle.std.specs.Char.{digit_value}
use Rattle.std.specs.Int.{IsInRange, IsOutOfRange}
use Rattle.std.specs.Str.Parse.{AllDigits, IsNumeral, digits_value}
use Rattle.std.proofs.lemmas.Int.Digits.{digits_more, digits_value_more}
use Rattle.std.proofs.lemmas.Str.{digit_value_digit}
use Rattle.std.proofs.lemmas.Str.Parse.{digit_at}
use Rattle.edge_lines.specs.declared.coordinate.TheConstants.{CEILING}

-- a digit behind a number that is cut off at the ceiling, and behind the number itself
kept : (v d : ℕ) → min (min v CEILING * 10 + d) CEILING ≡ min (v * 10 + d) CEILING
kept v d = omega arith

-- a byte is a digit, and with it the digits go on
pub one_more : (ds : List ℕ) (i value : ℕ) → i < length ds → IsInRange 48 57 (get_or ds i 0) → AllDigits 10 (take i ds) → value ≡ min (digits_value 10 (take i ds)) CEILING
    → AllDigits 10 (take (i + 1) ds) × (min (value * 10 + (get_or ds i 0 - 48)) CEILING ≡ min (digits_value 10 (take (i + 1) ds)) CEILING)
one_more ds i value lt digit all so_far =
    let named : digit_value (get_or ds i 0) + 48 ≡ get_or ds i 0 = digit_value_digit (get_or ds i 0) digit in
    let worth : get_or ds i 0 - 48 ≡ digit_value (get_or ds i 0) = omega (arith, named) in
    let high : get_or ds i 0 ≤ 57 = digit.1 in
    let small : digit_value (get_or ds i 0) < 10 = omega (arith, named, high) in (
      digits_more 10 ds i lt all small,
      ap₂ (λ v d. min (v * 10 + d) CEILING) so_far worth ∙ kept (digits_value 10 (take i ds)) (digit_value (get_or ds i 0)) ∙ ap (λ n. min n CEILING) (sym (digits_value_more 10 ds i lt)),
    )

-- where a byte is no digit there is no numeral
pub no_numeral : (ds : List ℕ) (i : ℕ) → i < length ds → IsOutOfRange 48 57 (get_or ds i 0) → ¬ IsNumeral 10 ds
no_numeral ds i lt (inl low) = λ h. let digit = digit_at ds i h.1 lt in absurd (omega (arith, low, digit.0))
no_numeral ds i lt (inr high) = λ h. let digit = digit_at ds i h.1 lt in absurd (omega (arith, high, digit.1))
