use Rattle.hot_region.proofs.WallLaws.{all_none, all_more}
use Rattle.hot_region.proofs.region.is_behind_all.Goals as goal

pub loop-wall-init : goal.loop-wall-init
loop-wall-init c = all_none c.args.pixel

pub loop-wall-preserved : goal.loop-wall-preserved
loop-wall-preserved c = all_more c.args.walls.now c.loop-wall.wall-index c.wall-item.result c.args.pixel c.loop-wall-test.true c.wall-item.is c.loop-wall.invariant (c.holds.ensures.0 c.if-not-holds.false)
