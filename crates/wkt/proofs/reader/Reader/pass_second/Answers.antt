use Rattle.wkt.proofs.Passing.{passes_none, second_here}
use Rattle.wkt.proofs.reader.Reader.pass_second.Goals as goal

pub returns-then-text-at-lt-NUMBER_ROOM : goal.returns-then-text-at-lt-NUMBER_ROOM
returns-then-text-at-lt-NUMBER_ROOM c = passes_none c.args.text.now c.args.at c.args.self.now c.requires.within

pub returns-in_default : goal.returns-in_default
returns-in_default c = passes_none c.args.text.now c.args.at c.args.self.now c.requires.within

pub returns : goal.returns
returns c = second_here c.args.text.now c.args.at c.in-Some.end c.args.self.now c.in-Some.y c.requires.place c.in-Some.ensures.0
