use Rattle.std.proofs.Common.{length}
use Rattle.cover_sets.specs.Sets.{set_of}
use Rattle.cover_sets.proofs.Ends.{Ends}
use Rattle.cover_sets.proofs.sets.Sets.greatest.Given as goal

abbrev pub invariant-loop-part : goal.invariant-loop-part
invariant-loop-part g l = Ends l.self l.set l.part

abbrev pub decreases-loop-part : goal.decreases-loop-part
decreases-loop-part g l = length (set_of l.self l.part)
