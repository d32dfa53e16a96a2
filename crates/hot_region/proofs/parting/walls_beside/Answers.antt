use Rattle.std.proofs.Common.{◌+◌, ◌^◌, w64, FitsSigned, to_z, of_z, arith}
use Rattle.std.proofs.Math.IntN.{ℤ, pos, ◌+ℤ◌}
use Rattle.std.proofs.lemmas.Int.{ints}
use Rattle.geom.specs.Limit.{IsWithin}
use Rattle.hot_region.proofs.parting.walls_beside.Goals as goal

abbrev sum_of : ℤ → ℤ → ℤ
sum_of a b = to_z w64 (of_z w64 a) +ℤ to_z w64 (of_z w64 b)

sum_in : (a b : ℤ) → IsWithin (2 ^ 59) a → IsWithin (2 ^ 30) b → IsWithin (2 ^ 59 + 2 ^ 30) (to_z w64 (of_z w64 (sum_of a b)))
sum_in a b h k =
    let hl = h.low in
    let hh = h.high in
    let kl = k.low in
    let kh = k.high in
    record { low = omega (arith, ints); high = omega (arith, ints) }

pub overflow_add-offset : goal.overflow_add-offset
overflow_add-offset c =
    let hl = c.offset.ensures.small.low in
    let hh = c.offset.ensures.small.high in
    let kl = c.span.ensures.small.low in
    let kh = c.span.ensures.small.high in
    omega (arith, ints)

next_fits : (n : ℤ) → IsWithin (2 ^ 59 + 2 ^ 30) n → FitsSigned w64 (n +ℤ pos 1)
next_fits n h = let l = h.low in let u = h.high in omega (arith, ints)

next_in : (n : ℤ) → IsWithin (2 ^ 59 + 2 ^ 30) n → IsWithin (2 ^ 60) (to_z w64 (of_z w64 (n +ℤ pos 1)))
next_in n h = let l = h.low in let u = h.high in record { low = omega (arith, ints); high = omega (arith, ints) }

pub overflow_add-offset-2 : goal.overflow_add-offset-2
overflow_add-offset-2 c = next_fits _ (sum_in c.offset.result c.span.result c.offset.ensures.small c.span.ensures.small)

pub walls_at-requires : goal.walls_at-requires
walls_at-requires c = next_in _ (sum_in c.offset.result c.span.result c.offset.ensures.small c.span.ensures.small)
