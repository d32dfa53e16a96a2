use Rattle.std.proofs.Common.{◌≡◌, ◌+◌, ◌<◌, length}
use Rattle.std.specs.Prelude.{filter, slice_range}
use Rattle.geom.specs.Segments.{neighbours}
use Rattle.columns.specs.Layout.{points_of}
use Rattle.columns.proofs.RingWalks.{differ}
use Rattle.columns.proofs.outline.count_steps.Given as goal

abbrev pub invariant-loop-end : goal.invariant-loop-end
invariant-loop-end l = record {
  count : l.count ≡ length (filter differ (neighbours (slice_range (points_of l.points) l.from l.end)));
  few : l.count + l.from < l.end;
}
