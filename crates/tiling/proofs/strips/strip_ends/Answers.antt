use Rattle.std.proofs.Common.{◌*◌, ◌∙◌}
use Rattle.tiling.proofs.Striping.{first_fits, first_is, last_is, strip_room}
use Rattle.tiling.proofs.strips.strip_ends.Goals as goal

pub overflow_add-left : goal.overflow_add-left
overflow_add-left c = first_fits c.args.low (c.args.strip * c.args.width) c.ranges.low c.requires.room.low_near (strip_room c.args.low c.args.high c.args.width c.args.strip c.requires.room c.requires.within)

pub returns-clause-first : goal.returns-clause-first
returns-clause-first c = first_is c.args.low (c.args.strip * c.args.width) c.ranges.low c.requires.room.low_near (strip_room c.args.low c.args.high c.args.width c.args.strip c.requires.room c.requires.within)

pub returns-clause-last : goal.returns-clause-last
returns-clause-last c =
    let l = strip_room c.args.low c.args.high c.args.width c.args.strip c.requires.room c.requires.within in
    last_is c.args.low _ _ (c.args.strip * c.args.width) c.args.width c.requires.room.low_near l c.requires.room.some c.ranges.width (c.from.ensures ∙ first_is c.args.low (c.args.strip * c.args.width) c.ranges.low c.requires.room.low_near l) c.from-2.ensures
