-- Points between those of the grid, close to a half-whole one (own).
use Rattle.std.specs.Prelude.{◌^◌, ◌*◌, pos, ◌+ℤ◌, ◌*ℤ◌}
use lib.Signed.{lt_z_yes}
use Rattle.geom.specs.Limit.{IsWithin, coordinate_limit}
use Rattle.geom.specs.Pixel.{Point}
use Rattle.lane_tests.specs.declared.points.Probe.{Probe}

-- the point (x2 / 2 + dx / 2 ^ 64, y2 / 2 + dy / 2 ^ 64)
abbrev pub point_of : Probe → Point
point_of z = record {
  x = (pos (2 ^ 63) *ℤ z.x2) +ℤ z.dx;
  y = (pos (2 ^ 63) *ℤ z.y2) +ℤ z.dy;
  n = pos (2 ^ 64);
  positive = lt_z_yes tt;
}

-- (x2 / 2, y2 / 2) is in the coordinate limit, and dx and dy are differences of coordinates in it
pub record IsProbe (z : Probe) : Type 0 where
  pub x2 : IsWithin (2 * coordinate_limit) z.x2
  pub y2 : IsWithin (2 * coordinate_limit) z.y2
  pub dx : IsWithin (2 * coordinate_limit) z.dx
  pub dy : IsWithin (2 * coordinate_limit) z.dy
