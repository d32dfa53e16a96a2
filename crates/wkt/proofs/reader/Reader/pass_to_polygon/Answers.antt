use Rattle.std.proofs.Common.{refl}
use Rattle.wkt.proofs.Passing.{next_polygon}
use Rattle.wkt.proofs.reader.Reader.pass_to_polygon.Goals as goal

pub returns : goal.returns
returns c = next_polygon c.args.text.now c.args.at c.args.self.now c.requires.place c.if-self.false (c.if-not-stands.ensures refl)
