use Rattle.std.proofs.Common.{ap, ◌∙◌, pos, sym}
use Rattle.grid.proofs.Columns.{steps_are, width_is}
use Rattle.grid.proofs.grid.steps_to.Goals as goal

pub returns : goal.returns
returns c = steps_are c.args.low c.args.x _ c.args.side (width_is c.args.low c.args.x _ _ c.ranges.low c.ranges.x c.requires.order c.from.ensures c.from-2.ensures) ∙ ap pos (sym c.sides_in.ensures)
