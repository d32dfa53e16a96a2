use Rattle.std.proofs.Common.{take}
use Rattle.std.specs.List.{flat_map}
use Rattle.geom.specs.Segments.{ring_steps}
use Rattle.layers.specs.Segments.{AllInLimit, HasSteps}
use Rattle.layers.proofs.segments.push_rings.Given as goal

abbrev pub invariant-loop-ring : goal.invariant-loop-ring
invariant-loop-ring g l = record {
  added : HasSteps l.layer (flat_map ring_steps (take l.ring-index l.rings)) l.initial.segments.items l.segments.items;
  in_limit : AllInLimit l.segments.items;
}
