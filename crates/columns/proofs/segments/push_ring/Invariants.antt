use Rattle.std.specs.Prelude.{slice_range}
use Rattle.geom.specs.Segments.{neighbours}
use Rattle.columns.specs.Layout.{points_of}
use Rattle.columns.specs.Segments.{AllInLimit, HasSteps}
use Rattle.columns.proofs.segments.push_ring.Given as goal

abbrev pub invariant-loop-end : goal.invariant-loop-end
invariant-loop-end g l = record {
  added : HasSteps l.layer (neighbours (slice_range (points_of l.points) l.from l.end)) l.initial.segments.items l.segments.items;
  in_limit : AllInLimit l.segments.items;
}
