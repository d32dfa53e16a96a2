use Rattle.std.proofs.Common.{◌≡◌, drop}
use Rattle.columns.specs.Refusals.{first_wrong, wrong_from}
use Rattle.columns.proofs.offsets.first_wrong.Given as goal

abbrev pub invariant-loop-at : goal.invariant-loop-at
invariant-loop-at l = wrong_from l.count l.at l.before (drop l.at l.offsets) ≡ first_wrong l.count l.offsets
