use Rattle.phases.proofs.Bounding.{HoldsFirst}
use Rattle.phases.proofs.strip_records.box_of.Given as goal

abbrev pub invariant-loop-s : goal.invariant-loop-s
invariant-loop-s l = HoldsFirst l.segments l.s-index l.bounds
