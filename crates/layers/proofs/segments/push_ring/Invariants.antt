use Rattle.std.proofs.Common.{take}
use Rattle.geom.specs.Segments.{neighbours}
use Rattle.layers.specs.Segments.{AllInLimit, HasSteps}
use Rattle.layers.proofs.segments.push_ring.Given as goal

abbrev pub invariant-loop-end : goal.invariant-loop-end
invariant-loop-end g l = record {
  added : HasSteps l.layer (neighbours (take l.end l.points)) l.initial.segments.items l.segments.items;
  in_limit : AllInLimit l.segments.items;
}
