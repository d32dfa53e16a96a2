-- The side of a segment on which a half-whole point lies (own).
use Rattle.std.specs.Prelude.{ℕ, ℤ, pos, negsuc, ◌+◌, ◌*◌, ◌-ℤ◌, ◌*ℤ◌, List, map, int_lt, if◌then◌else◌}
use Rattle.std.specs.Int.{int_signum}
use Rattle.std.specs.List.{range_with_len}
use Rattle.geom.specs.Determinant.{determinant}
use Rattle.geom.specs.Limit.{IsWithin, coordinate_limit}
use Rattle.lane_tests.specs.Columns.{Ends}
use Rattle.lane_tests.specs.Above.{offset_at, run_at}
use Rattle.lane_tests.specs.declared.points.Half.{Half}

-- the sign of the determinant of b - a and z - a, where the segment is from a to b and z = (x2 / 2, y2 / 2); it is computed of twice z - a
abbrev pub side_sign : Ends → Half → ℤ
side_sign s z = int_signum (determinant (s.1.x -ℤ s.0.x) (s.1.y -ℤ s.0.y) (z.x2 -ℤ (pos 2 *ℤ s.0.x)) (z.y2 -ℤ (pos 2 *ℤ s.0.y)))

-- the point is at most 1/2 outside the coordinate limit
pub record IsHalf (z : Half) : Type 0 where
  pub x2 : IsWithin (2 * coordinate_limit + 1) z.x2
  pub y2 : IsWithin (2 * coordinate_limit + 1) z.y2

-- the sign of u - v, as lanes and the plain loop compute it
abbrev pub sign : ℤ → ℤ → ℤ
sign u v = if int_lt u v then negsuc 0 else (if int_lt v u then pos 1 else pos 0)

abbrev pub side_at : List ℤ → List ℤ → List ℤ → List ℤ → ℤ → ℤ → ℕ → ℤ
side_at ls bs rs ts x2 y2 k = sign (run_at ls rs k *ℤ offset_at bs y2 k) (run_at bs ts k *ℤ offset_at ls x2 k)

-- the n signs from `from` on
unfoldable pub siding : (ℕ → ℤ) → ℕ → ℕ → List ℤ
siding f from n = map f (range_with_len from n)
