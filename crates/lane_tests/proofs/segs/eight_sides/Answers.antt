use Rattle.lane_tests.proofs.Values.{signs64, signs8, signs_castable}
use Rattle.lane_tests.specs.Sides.{siding}
use Rattle.lane_tests.proofs.Ends.{compared}
use Rattle.lane_tests.proofs.segs.eight_sides.Goals as goal

pub overflow_cast-result : goal.overflow_cast-result
overflow_cast-result c = let (over, under) = compared _ _ _ _ c.args.at c.requires.ends c.requires.in_range c.args.x2 c.args.y2 c.requires.x2_near c.requires.y2_near c.products.result c.products.ensures.over c.products.ensures.under in signs_castable (signs64 over under)

pub returns : goal.returns
unfolding siding
returns c = let (over, under) = compared _ _ _ _ c.args.at c.requires.ends c.requires.in_range c.args.x2 c.args.y2 c.requires.x2_near c.requires.y2_near c.products.result c.products.ensures.over c.products.ensures.under in signs8 (signs64 over under)
