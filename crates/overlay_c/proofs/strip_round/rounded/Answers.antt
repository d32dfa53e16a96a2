use Rattle.overlay_c.proofs.StripLists.{are_lines, cuts_ascend, lines_limited, lines_ordered}
use Rattle.overlay_c.proofs.strip_round.rounded.Goals as goal

pub lines_of-requires : goal.lines_of-requires
lines_of-requires c = are_lines c.args.cuts.now c.args.strip c.args.lines.now c.requires

pub round-requires-clause-ascending : goal.round-requires-clause-ascending
round-requires-clause-ascending c = cuts_ascend c.args.cuts.now c.args.strip c.args.lines.now c.requires

pub round-requires-clause-ordered : goal.round-requires-clause-ordered
round-requires-clause-ordered c = rw c.deref.ensures.value (lines_ordered c.args.cuts.now c.args.strip c.args.lines.now c.requires c.in_ok-lines.lines.items c.in_ok-lines.ensures)

pub round-requires-clause-limits : goal.round-requires-clause-limits
round-requires-clause-limits c = rw c.deref.ensures.value (lines_limited c.args.cuts.now c.args.strip c.args.lines.now c.requires c.in_ok-lines.lines.items c.in_ok-lines.ensures)
