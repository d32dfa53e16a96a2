use Rattle.std.proofs.Common.{map, length, take, drop, ◌≡◌, ◌≤◌, ◌-◌}
use Rattle.geom.specs.Canonical.{written_rings}
use Rattle.polygonize.specs.Grouped.{AreGrouped, BeginsWithShell}
use Rattle.polygonize.specs.Placed.{points, stands_as_hole}
use Rattle.polygonize.proofs.polygon.grouped.Given as goal

abbrev pub invariant-loop-at : goal.invariant-loop-at
invariant-loop-at g l = (l.at ≤ length l.written) × (written_rings l.polygons.items ≡ map (points l.edges) (take l.at l.written)) × (BeginsWithShell stands_as_hole l.written → AreGrouped stands_as_hole (points l.edges) (take l.at l.written) l.polygons.items) × (BeginsWithShell stands_as_hole l.written → BeginsWithShell stands_as_hole (drop l.at l.written))

abbrev pub decreases-loop-at : goal.decreases-loop-at
decreases-loop-at g l = length l.written - l.at
