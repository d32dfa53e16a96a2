use Rattle.std.proofs.Common.{◌≡◌}
use Rattle.std.specs.Prelude.{slice_range}
use Rattle.columns.specs.Layout.{points_of}
use Rattle.columns.specs.Refusals.{first_outside}
use Rattle.columns.proofs.surveying.first_outside.Given as goal

abbrev pub invariant-loop-number : goal.invariant-loop-number
invariant-loop-number l = first_outside l.number (slice_range (points_of l.points) l.number l.past) ≡ first_outside l.from (slice_range (points_of l.points) l.from l.past)
