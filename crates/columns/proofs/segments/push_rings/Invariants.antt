use Rattle.std.specs.List.{flat_map}
use Rattle.geom.specs.Segments.{ring_steps}
use Rattle.columns.specs.Layout.{plain}
use Rattle.columns.specs.Reach.{rings_between}
use Rattle.columns.specs.Segments.{AllInLimit, HasSteps}
use Rattle.columns.proofs.segments.push_rings.Given as goal

abbrev pub invariant-loop-ring : goal.invariant-loop-ring
invariant-loop-ring g l = record {
  added : HasSteps l.layer (flat_map ring_steps (plain (rings_between l.columns l.fn.rings.first l.ring))) l.initial.segments.items l.segments.items;
  in_limit : AllInLimit l.segments.items;
}
