use Rattle.std.proofs.Common.{◌≡◌, ◌^◌, w64, FitsSigned, to_z, of_z, arith}
use Rattle.std.proofs.Math.IntN.{ℤ, pos, ◌+ℤ◌, ◌-ℤ◌, ◌*ℤ◌}
use Rattle.std.specs.Prelude.{◌<ℤ◌, ◌≤ℤ◌, int_le, nat_abs, false, true}
use Rattle.std.proofs.lemmas.Int.{ints}
use Rattle.geom.specs.Determinant.{determinant}
use Rattle.geom.specs.Limit.{IsWithin}
use Rattle.geom.proofs.Integers.{linear}
use Rattle.geom.proofs.Tests.{le_yes}
use Rattle.hot_region.proofs.WallLaws.{reaches_end}
use Rattle.hot_region.proofs.wall.Wall.is_reached_by.Goals as goal

abbrev doubled : ℤ → ℤ
doubled n = to_z w64 (of_z w64 (pos 2 *ℤ to_z w64 (of_z w64 n)))

doubled_fits : (n : ℤ) → IsWithin (2 ^ 59) n → FitsSigned w64 (pos 2 *ℤ to_z w64 (of_z w64 n))
doubled_fits n h = let l = h.low in let u = h.high in omega (arith, ints)

doubled_is : (n d : ℤ) → IsWithin (2 ^ 61) n → n ≡ d → doubled n ≡ pos 2 *ℤ d
doubled_is n d h e = let l = h.low in let u = h.high in omega (arith, ints)

wider : (n : ℤ) → IsWithin (2 ^ 59) n → IsWithin (2 ^ 61) n
wider n h = let l = h.low in let u = h.high in record { low = omega (arith, ints); high = omega (arith, ints) }

least_is : (b s t : ℤ) → IsWithin (2 ^ 61) b → IsWithin (2 ^ 30) s → s ≡ t → to_z w64 (of_z w64 (doubled b -ℤ to_z w64 (of_z w64 s))) ≡ (pos 2 *ℤ b) -ℤ t
least_is b s t h k e =
    let d : doubled b ≡ pos 2 *ℤ b = doubled_is b b h (λ i. b) in
    rest (doubled b) b s t d h k e
  where
    rest : (n b s t : ℤ) → n ≡ pos 2 *ℤ b → IsWithin (2 ^ 61) b → IsWithin (2 ^ 30) s → s ≡ t → to_z w64 (of_z w64 (n -ℤ to_z w64 (of_z w64 s))) ≡ (pos 2 *ℤ b) -ℤ t
    rest n b s t d h k e =
        let hl = h.low in
        let hh = h.high in
        let kl = k.low in
        let kh = k.high in
        omega (arith, ints)

pub overflow_mul-result : goal.overflow_mul-result
overflow_mul-result c = doubled_fits c.offset-else-least-offset.result c.offset-else-least-offset.ensures.small

short_by : (a b : ℤ) → int_le a b ≡ false → b <ℤ a
short_by a b h = omega (arith, ints)

told_by : (a b c d : ℤ) → a ≡ c → b ≡ d → c ≤ℤ d → int_le a b ≡ true
told_by a b c d e f h = le_yes a b (omega (arith, linear))

pub returns-else-least-offset : goal.returns-else-least-offset
returns-else-least-offset c = λ p behind met.
    let wall = c.args.self.now in
    let least = least_is wall.bound c.span.result (pos (nat_abs wall.run.dx) +ℤ pos (nat_abs wall.run.dy)) wall.bound_small c.span.ensures.small c.span.ensures.value in
    let line = c.args.line.now in
    let first = doubled_is c.offset.result (determinant wall.run.dx wall.run.dy line.p.x line.p.y) (wider c.offset.result c.offset.ensures.small) c.offset.ensures.value in
    let second = doubled_is c.offset-else-least-offset.result (determinant wall.run.dx wall.run.dy line.q.x line.q.y) (wider c.offset-else-least-offset.result c.offset-else-least-offset.ensures.small) c.offset-else-least-offset.ensures.value in
    told_by _ _ _ _ least second (reaches_end wall line p behind met (short_by _ _ (rw (least, first) at c.if-least-offset.false)))
