use Rattle.std.proofs.Common.{◌∙◌, rules, arith, to_z-of_z, FitsSigned, w8}
use Rattle.lane_tests.proofs.Ends.{read_back}
use Rattle.lane_tests.proofs.SideLemmas.{written_none, written_part, written_one, written_all}
use Rattle.lane_tests.proofs.segs.put_sides.Goals as goal

pub loop-at-init : goal.loop-at-init
loop-at-init c = written_none _ _ _

pub loop-at-preserved : goal.loop-at-preserved
loop-at-preserved c = written_part _ _ _ _ _ _ c.loop-at.invariant (omega arith) c.put_eight.ensures

pub loop-at-2-preserved : goal.loop-at-2-preserved
loop-at-2-preserved c =
    let r = read_back _ _ _ _ c.requires.ends c.loop-at-2.at in
    let f5 = c.ranges.x2 in
    let f6 = c.ranges.y2 in
    let f7 : FitsSigned w8 c.one_side.result = search rules in
    written_one _ _ _ _ _ c.loop-at-2.invariant (omega arith) (omega arith) (to_z-of_z f7 ∙ (simp to_z-of_z (simp (to_z-of_z, r.0, r.1, r.2, r.3) at c.one_side.ensures)))

pub returns : goal.returns
returns c =
    let f5 = c.ranges.x2 in
    let f6 = c.ranges.y2 in
    let e = written_all _ _ _ _ c.loop-at-2.invariant (omega arith) (omega arith) in
    simp to_z-of_z at e
