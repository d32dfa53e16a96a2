use Rattle.std.proofs.Common.{◌≡◌, ◌+◌, ◌≤◌}
use Rattle.wkt.specs.Outlines.{IsOutline}
use Rattle.columns.specs.Layout.{plain}
use Rattle.columns.specs.Reach.{first_point_of, rings_between}
use Rattle.columns.specs.Refusals.{first_ring_fault}
use Rattle.columns.proofs.surveying.rings_outline.Given as goal

abbrev pub invariant-loop-ring : goal.invariant-loop-ring
invariant-loop-ring l = record {
  outline : IsOutline (plain (rings_between l.columns l.fn.rings.first l.ring)) l.outline;
  fault : first_ring_fault l.ring (rings_between l.columns l.ring l.fn.rings.past) ≡ first_ring_fault l.fn.rings.first (rings_between l.columns l.fn.rings.first l.fn.rings.past);
  few : l.outline.segments + first_point_of l.columns l.fn.rings.first ≤ first_point_of l.columns l.ring;
}
