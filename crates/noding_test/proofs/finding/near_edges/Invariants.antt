use Rattle.std.proofs.Common.{◌≡◌, take}
use Rattle.noding_test.specs.Verdicts.{chosen_edges}
use Rattle.noding_test.proofs.finding.near_edges.Given as goal

abbrev pub invariant-loop-number : goal.invariant-loop-number
invariant-loop-number g l = l.edges.items ≡ chosen_edges l.counted (take l.number-index l.numbers)
