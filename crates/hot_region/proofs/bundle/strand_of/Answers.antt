use Rattle.std.proofs.Common.{◌≡◌, ◌^◌, ◌<◌, w32, w64, FitsSigned, to_z, of_z, arith}
use Rattle.std.proofs.Math.IntN.{ℤ, pos, ◌+ℤ◌, ◌-ℤ◌}
use Rattle.std.specs.Int.{w128}
use Rattle.std.proofs.lemmas.Int.{ints}
use lib.Signed.{mag}
use Rattle.geom.specs.declared.edge.Edge.{Edge}
use Rattle.hot_region.specs.Bundle.{height, IsFloor}
use Rattle.hot_region.proofs.bundle.strand_of.Goals as goal

left_is : (b x : ℤ) → FitsSigned w32 x → b ≡ (to_z w32 (of_z w32 x) +ℤ to_z w32 (of_z w32 x)) -ℤ pos 1 → to_z w64 (of_z w64 b) ≡ (x +ℤ x) -ℤ pos 1
left_is b x f e = omega (arith, ints)

right_is : (b x : ℤ) → FitsSigned w32 x → b ≡ (to_z w32 (of_z w32 x) +ℤ to_z w32 (of_z w32 x)) +ℤ pos 1 → to_z w64 (of_z w64 b) ≡ (x +ℤ x) +ℤ pos 1
right_is b x f e = omega (arith, ints)

floor_back : (e : Edge) (b d r k : ℤ) → b ≡ d → mag k < 2 ^ 127 → IsFloor (height e b) r k → IsFloor (height e d) r (to_z w128 (of_z w128 k))
floor_back e b d r k q small f =
    let g : to_z w128 (of_z w128 k) ≡ k = omega (arith, ints) in
    rw g (rw q at f)

pub returns : goal.returns
returns c = record {
  within = c.requires.line_in;
  through = c.requires.through;
  left = floor_back c.args.line.now _ _ _ c.height_at.result (left_is c.left_of.result c.args.low c.ranges.low c.left_of.ensures) c.height_at.type_inv c.height_at.ensures;
  right = floor_back c.args.line.now _ _ _ c.height_at-2.result (right_is c.right_of.result c.args.high c.ranges.high c.right_of.ensures) c.height_at-2.type_inv c.height_at-2.ensures;
}
