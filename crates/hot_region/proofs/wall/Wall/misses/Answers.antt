use Rattle.std.proofs.Common.{◌≡◌, ◌^◌, w64, to_z, of_z, arith}
use Rattle.std.proofs.Math.IntN.{ℤ}
use Rattle.std.specs.Prelude.{◌<ℤ◌, ◌≤ℤ◌}
use Rattle.std.proofs.lemmas.Int.{ints}
use Rattle.geom.specs.Limit.{IsWithin}
use Rattle.geom.proofs.Tests.{lt_told}
use Rattle.hot_region.proofs.wall.Wall.misses.Goals as goal

never : (off bound far x : ℤ) → IsWithin (2 ^ 59) off → IsWithin (2 ^ 61) bound → off ≡ far → x ≤ℤ far → bound ≤ℤ x → to_z w64 (of_z w64 off) <ℤ to_z w64 (of_z w64 bound) → ⊥
never off bound far x h k e l m n =
    let hl = h.low in
    let hh = h.high in
    let kl = k.low in
    let kh = k.high in
    omega (arith, ints)

pub returns : goal.returns
returns c = λ p told inside behind. never c.offset.result c.args.self.now.bound _ _ c.offset.ensures.small c.args.self.now.bound_small c.offset.ensures.value (c.leftmost.ensures.farthest p inside) behind.from (lt_told _ _ told)
