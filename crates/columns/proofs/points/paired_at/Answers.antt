use Rattle.std.proofs.Common.{arith}
use Rattle.columns.proofs.PointColumns.{paired_few}
use Rattle.columns.proofs.points.paired_at.Goals as goal

pub number_at-requires : goal.number_at-requires
number_at-requires c = let few = (paired_few c.args.x.now c.args.y.now).0 in omega (arith, few)

pub number_at-requires-2 : goal.number_at-requires-2
number_at-requires-2 c = let few = (paired_few c.args.x.now c.args.y.now).1 in omega (arith, few)
