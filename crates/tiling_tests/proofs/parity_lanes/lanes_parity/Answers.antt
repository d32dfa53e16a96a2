use Rattle.std.proofs.Common.{refl, rules, to_z-of_z, FitsSigned, w32}
use Rattle.tiling_tests.proofs.parity_lanes.lanes_parity.Goals as goal

pub odd_above-requires : goal.odd_above-requires
odd_above-requires c =
    let f1 : FitsSigned w32 c.args.z.x2 = search rules in
    let f2 : FitsSigned w32 c.args.z.y2 = search rules in
    let f3 : FitsSigned w32 c.args.z.dx = search rules in
    let f4 : FitsSigned w32 c.args.z.dy = search rules in
    record {
      x2 = rw (to_z-of_z f1) at (c.if-is_small.ensures refl);
      y2 = rw (to_z-of_z f2) at (c.if-is_small-2.ensures refl);
      dx = rw (to_z-of_z f3) at (c.if-is_small-3.ensures refl);
      dy = rw (to_z-of_z f4) at (c.if-is_small-4.ensures refl);
    }
