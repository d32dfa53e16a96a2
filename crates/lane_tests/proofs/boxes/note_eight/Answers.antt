use Rattle.std.proofs.Common.{arith}
use Rattle.lane_tests.proofs.Hits.{noted_none, noted_more, noted_all}
use Rattle.lane_tests.proofs.boxes.note_eight.Goals as goal

pub loop-lane-init : goal.loop-lane-init
loop-lane-init c = noted_none _ _ _ _ _ c.touching-rest.ensures

pub bounds-found-end : goal.bounds-found-end
bounds-found-end c = omega (arith, c.loop-lane.invariant.few, c.requires.room, c.loop-lane.auto.found, c.loop-lane-test.true)

pub loop-lane-preserved : goal.loop-lane-preserved
loop-lane-preserved c = noted_more _ _ _ _ _ _ _ _ c.loop-lane.invariant c.loop-lane-test.true (omega (arith, c.loop-lane.invariant.few, c.requires.room, c.loop-lane.auto.found, c.loop-lane-test.true))

pub returns-clause-noted : goal.returns-clause-noted
returns-clause-noted c = noted_all _ _ _ _ _ _ _ _ c.loop-lane.invariant c.loop-lane-test.false

pub returns-clause-few : goal.returns-clause-few
returns-clause-few c = omega (arith, c.loop-lane.invariant.few, c.loop-lane.invariant.within)
