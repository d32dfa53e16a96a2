use Rattle.std.proofs.Common.{arith}
use Rattle.wkt.specs.declared.places.Place.TheVariants.{DigitsX}
use Rattle.wkt.specs.Running.{reader_at}
use Rattle.wkt.proofs.Passing.{passes_none, passes_then, before_first, first_number}
use Rattle.wkt.proofs.reader.Reader.pass_point.Goals as goal

pub number-requires : goal.number-requires
number-requires c = omega (arith, c.behind_space-from.ensures.1, c.if-text-at-lt-POINT_ROOM.false)

pub number_behind_space-requires : goal.number_behind_space-requires
number_behind_space-requires c = omega (arith, c.behind_space-from.ensures.1, c.in-Some.ensures.1, c.if-text-at-lt-POINT_ROOM.false)

pub returns-then-text-at-lt-POINT_ROOM : goal.returns-then-text-at-lt-POINT_ROOM
returns-then-text-at-lt-POINT_ROOM c = passes_none c.args.text.now c.args.at c.args.self.now c.requires.within

pub returns-in_default : goal.returns-in_default
returns-in_default c = before_first c.args.text.now c.args.at c.behind_space-from.result c.args.self.now c.requires.place c.behind_space-from.ensures.0

pub returns-in_default-number_behind_space : goal.returns-in_default-number_behind_space
returns-in_default-number_behind_space c =
    first_number c.args.text.now c.args.at c.behind_space-from.result c.in-Some.gap c.args.self.now c.in-Some.x c.requires.place c.behind_space-from.ensures.0 c.in-Some.ensures.0

pub returns : goal.returns
returns c =
    passes_then c.args.text.now c.args.at c.in-Some.gap c.in-Some-number_behind_space.end c.args.self.now (reader_at DigitsX c.args.self.now.multi c.args.self.now.x c.in-Some.x) _
    (first_number c.args.text.now c.args.at c.behind_space-from.result c.in-Some.gap c.args.self.now c.in-Some.x c.requires.place c.behind_space-from.ensures.0 c.in-Some.ensures.0)
    (c.in-Some-number_behind_space.ensures c.args.self.now.multi c.args.self.now.x c.in-Some.x)
