use Rattle.std.proofs.Common.{arith, to_z-of_z}
use Rattle.lane_tests.proofs.SideLemmas.{stored}
use Rattle.lane_tests.proofs.segs.put_eight.Goals as goal

pub returns : goal.returns
returns c =
    let fx = c.ranges.x2 in let fy = c.ranges.y2 in
    stored _ _ _ _ c.args.x2 c.args.y2 c.args.at _ _ (simp to_z-of_z at c.eight_sides.ensures) (omega arith)
