use Rattle.std.proofs.Common.{◌≡◌, ◌^◌, ◌*◌, drop, ◌+ℤ◌}
use Rattle.geom.specs.Limit.{IsWithin}
use Rattle.cover_law.specs.Areas.{twice_area}
use Rattle.rows.proofs.area.twice_area.Given as goal

-- the area so far, with that of the rest
abbrev pub invariant-loop-edge : goal.invariant-loop-edge
invariant-loop-edge l = (l.area +ℤ twice_area (drop l.edge-index l.edges) ≡ twice_area l.edges) × IsWithin (2 ^ 59 * l.edge-index) l.area
