use Rattle.std.proofs.Common.{◌≡◌, take}
use Rattle.routing.specs.Pieces.{candidates_of}
use Rattle.routing.proofs.finding.candidates_of.Given as goal

abbrev pub invariant-loop-number : goal.invariant-loop-number
invariant-loop-number g l = l.candidates.items ≡ candidates_of l.segments (take l.number-index l.numbers)
