use Rattle.std.proofs.Common.{◌+◌, ap, arith}
use Rattle.wkt.specs.Machine.{class_of}
use Rattle.wkt.proofs.Passing.{second_read}
use Rattle.wkt.proofs.runs.number_behind_space.Goals as goal

pub returns : goal.returns
returns c = second_read c.args.text.now c.args.at (c.args.at + 1 + 10) c.number.result (omega (arith, c.requires)) (ap class_of c.if-text-at-ne32.false) c.number.ensures
