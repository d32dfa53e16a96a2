use Rattle.std.proofs.Common.{w64}
use Rattle.lane_tests.proofs.Values.{castable, numbers, times, widened}
use Rattle.lane_tests.proofs.Ends.{run, rise, along, up, over_fits, under_fits}
use Rattle.lane_tests.proofs.edges.products.Goals as goal

pub overflow_cast-run : goal.overflow_cast-run
overflow_cast-run c = castable (run _ _ _ _ c.args.at c.requires.ends c.requires.in_range)

pub overflow_cast-rise : goal.overflow_cast-rise
overflow_cast-rise c = castable (rise _ _ _ _ c.args.at c.requires.ends c.requires.in_range)

pub overflow_cast-up : goal.overflow_cast-up
overflow_cast-up c = castable (up _ _ _ _ c.args.at c.requires.ends c.requires.in_range c.args.x2 c.args.y2 c.requires.x2_near c.requires.y2_near)

pub overflow_cast-along : goal.overflow_cast-along
overflow_cast-along c = castable (along _ _ _ _ c.args.at c.requires.ends c.requires.in_range c.args.x2 c.args.y2 c.requires.x2_near c.requires.y2_near)

pub returns-clause-over : goal.returns-clause-over
returns-clause-over c = numbers (times w64 (widened (run _ _ _ _ c.args.at c.requires.ends c.requires.in_range)) (widened (up _ _ _ _ c.args.at c.requires.ends c.requires.in_range c.args.x2 c.args.y2 c.requires.x2_near c.requires.y2_near)) (over_fits _ _ _ _ c.args.at c.requires.ends c.requires.in_range c.args.x2 c.args.y2 c.requires.x2_near c.requires.y2_near))

pub returns-clause-under : goal.returns-clause-under
returns-clause-under c = numbers (times w64 (widened (rise _ _ _ _ c.args.at c.requires.ends c.requires.in_range)) (widened (along _ _ _ _ c.args.at c.requires.ends c.requires.in_range c.args.x2 c.args.y2 c.requires.x2_near c.requires.y2_near)) (under_fits _ _ _ _ c.args.at c.requires.ends c.requires.in_range c.args.x2 c.args.y2 c.requires.x2_near c.requires.y2_near))
