use Rattle.std.proofs.Common.{◌≡◌, take}
use Rattle.noding_test.specs.Verdicts.{chosen_edges}
use Rattle.noding_test.proofs.own.are_near.Given as goal

abbrev pub invariant-loop-i : goal.invariant-loop-i
invariant-loop-i l = take l.i l.edges ≡ chosen_edges l.counted (take l.i l.numbers)
