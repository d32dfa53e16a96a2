use Rattle.overlay_c.proofs.StripOnce.{carried_once, counted_once, lines_once, opens_once}
use Rattle.overlay_c.proofs.strip_law.told_lists_are_one.Goals as goal

pub returns-clause-lines : goal.returns-clause-lines
returns-clause-lines c = lines_once

pub returns-clause-opens : goal.returns-clause-opens
returns-clause-opens c = opens_once

pub returns-clause-carried : goal.returns-clause-carried
returns-clause-carried c = carried_once

pub returns-clause-counted : goal.returns-clause-counted
returns-clause-counted c = counted_once
