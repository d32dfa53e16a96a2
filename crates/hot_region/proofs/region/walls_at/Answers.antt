use Rattle.std.proofs.Common.{◌≡◌, ◌^◌, w64, to_z, of_z, to_z-of_z, arith}
use Rattle.std.proofs.Math.IntN.{ℤ, pos, ◌-ℤ◌}
use Rattle.std.proofs.lemmas.Int.{ints}
use Rattle.geom.specs.Limit.{IsWithin}
use Rattle.hot_region.proofs.WallLaws.{partition}
use Rattle.hot_region.proofs.region.walls_at.Goals as goal

bound_back : (b : ℤ) → IsWithin (2 ^ 60) b → to_z w64 (of_z w64 (pos 1 -ℤ to_z w64 (of_z w64 b))) ≡ pos 1 -ℤ b
bound_back b h = let l = h.low in let u = h.high in omega (arith, ints)

minus_back : (d : ℤ) → IsWithin (2 ^ 29) d → to_z w64 (of_z w64 (pos 0 -ℤ to_z w64 (of_z w64 d))) ≡ pos 0 -ℤ d
minus_back d h = let l = h.low in let u = h.high in omega (arith, ints)

pub returns : goal.returns
returns c = partition _ _ c.args.bound (to_z-of_z c.ranges.bound) (bound_back c.args.bound c.requires) (minus_back c.args.run.dx c.args.run.dx_small) (minus_back c.args.run.dy c.args.run.dy_small)
