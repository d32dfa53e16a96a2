use Rattle.label_sweep.proofs.LeavingEdges.{none_free}
use Rattle.label_sweep.proofs.leaving.LeavingSweep.before.Goals as goal

pub returns-clause-free : goal.returns-clause-free
returns-clause-free g c = none_free c.in_ok-line.line.standing.slots.items c.in_ok-line.line.standing.free.items c.in_ok-line.ensures.free
