use Rattle.std.proofs.Common.{arith}
use Rattle.columns.proofs.PointColumns.{pairs_few}
use Rattle.columns.proofs.points.pair_at.Goals as goal

pub number_at-requires : goal.number_at-requires
number_at-requires c = let few = (pairs_few c.args.coordinates.now).0 in omega (arith, few)

pub number_at-requires-2 : goal.number_at-requires-2
number_at-requires-2 c = let few = (pairs_few c.args.coordinates.now).0 in omega (arith, few)

pub overflow_mul-number : goal.overflow_mul-number
overflow_mul-number c = let few = (pairs_few c.args.coordinates.now).0 in let w = c.well_formed in omega (arith, few, w)

pub overflow_mul-number-2 : goal.overflow_mul-number-2
overflow_mul-number-2 c = let few = (pairs_few c.args.coordinates.now).0 in let w = c.well_formed in omega (arith, few, w)

pub overflow_add-number : goal.overflow_add-number
overflow_add-number c = let few = (pairs_few c.args.coordinates.now).0 in let w = c.well_formed in omega (arith, few, w)
