use Rattle.std.specs.Prelude.{slice_range}
use Rattle.columns.specs.Layout.{points_of}
use Rattle.columns.specs.Reach.{IsPointBox}
use Rattle.columns.proofs.outline.box_of.Given as goal

abbrev pub invariant-loop-number : goal.invariant-loop-number
invariant-loop-number l = IsPointBox (slice_range (points_of l.points) l.from l.number) l.bounds
