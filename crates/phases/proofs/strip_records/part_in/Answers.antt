use Rattle.std.proofs.Common.{arith}
use Rattle.std.proofs.lemmas.Int.{ints}
use Rattle.phases.proofs.Columns.{in_part, no_column}
use Rattle.phases.proofs.strip_records.part_in.Goals as goal

pub returns-then-left-right : goal.returns-then-left-right
returns-then-left-right c p in_box = no_column c.args.cuts.now c.args.strip c.args.bounds c.first_column-left.result c.last_column-right.result c.first_column-left.ensures c.last_column-right.ensures p in_box (omega (arith, ints, c.if-left-right.true))

pub returns : goal.returns
returns c p in_box = in_part c.args.cuts.now c.args.strip c.args.bounds c.first_column-left.result c.last_column-right.result c.first_column-left.ensures c.last_column-right.ensures p in_box _ _ (omega (arith, ints)) (omega (arith, ints)) (omega (arith, ints)) (omega (arith, ints))
