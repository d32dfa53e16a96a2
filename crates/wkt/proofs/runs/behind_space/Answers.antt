use Rattle.std.proofs.Common.{ap, arith}
use Rattle.wkt.specs.Machine.{class_of}
use Rattle.wkt.proofs.Passing.{spaces_none, spaces_more}
use Rattle.wkt.proofs.runs.behind_space.Goals as goal

pub returns-then-text-at-ne32 : goal.returns-then-text-at-ne32
returns-then-text-at-ne32 c = (spaces_none c.args.text.now c.args.at (omega (arith, c.requires)), omega arith)

pub returns : goal.returns
returns c = (spaces_more c.args.text.now c.args.at c.args.at (spaces_none c.args.text.now c.args.at (omega (arith, c.requires))) c.requires (ap class_of c.if-text-at-ne32.false), omega arith)
