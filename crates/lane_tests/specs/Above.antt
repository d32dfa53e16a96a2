-- What eight lanes compute of edges and of a point between those of the grid (own).
use Rattle.std.specs.Prelude.{ℕ, ℤ, pos, ◌^◌, ◌+ℤ◌, ◌-ℤ◌, ◌*ℤ◌, ◌<ℤ◌, ◌≤ℤ◌, Bool, ◌&&◌, ◌||◌, List, get_or, int_le, int_lt, count_by}
use Rattle.std.specs.List.{range_with_len}
use Rattle.geom.specs.Limit.{IsWithin}
use Rattle.geom.specs.Determinant.{determinant}
use Rattle.geom.specs.Pixel.{Point}
use Rattle.lane_tests.specs.Columns.{AreColumns, Ends}
use Rattle.lane_tests.specs.declared.points.Probe.{Probe}

-- the edge between these points covers z and lies above it, as in geom's parity
abbrev pub is_over : Ends → Point → Bool
is_over e z = (int_le (z.n *ℤ e.0.x) z.x && int_lt z.x (z.n *ℤ e.1.x)) && int_lt (determinant (e.1.x -ℤ e.0.x) (e.1.y -ℤ e.0.y) (z.x -ℤ (z.n *ℤ e.0.x)) (z.y -ℤ (z.n *ℤ e.0.y))) (pos 0)

-- the parts of a probe leave room in the lanes
pub record HasRoom (z : Probe) : Type 0 where
  pub x2 : IsWithin (2 ^ 29) z.x2
  pub y2 : IsWithin (2 ^ 29) z.y2
  pub dx : IsWithin (2 ^ 29) z.dx
  pub dy : IsWithin (2 ^ 29) z.dy

-- columns of the ends of edges or segments
pub record AreEnds (ls bs rs ts : List ℤ) : Type 0 where
  pub columns : AreColumns ls bs rs ts
  pub near : (k : ℕ) → IsWithin (2 ^ 28) (get_or ls k (pos 0)) × IsWithin (2 ^ 28) (get_or bs k (pos 0)) × IsWithin (2 ^ 28) (get_or rs k (pos 0)) × IsWithin (2 ^ 28) (get_or ts k (pos 0))

-- what the lanes compute of the edge k, for z = (x2 / 2, y2 / 2)
abbrev pub run_at : List ℤ → List ℤ → ℕ → ℤ
run_at ls rs k = get_or rs k (pos 0) -ℤ get_or ls k (pos 0)

abbrev pub offset_at : List ℤ → ℤ → ℕ → ℤ
offset_at ls x2 k = x2 -ℤ (get_or ls k (pos 0) +ℤ get_or ls k (pos 0))

abbrev pub is_less : List ℤ → List ℤ → List ℤ → List ℤ → ℤ → ℤ → ℕ → Bool
is_less ls bs rs ts x2 y2 k = int_lt (run_at ls rs k *ℤ offset_at bs y2 k) (run_at bs ts k *ℤ offset_at ls x2 k)

abbrev pub is_at_most : List ℤ → List ℤ → List ℤ → List ℤ → ℤ → ℤ → ℕ → Bool
is_at_most ls bs rs ts x2 y2 k = int_le (run_at ls rs k *ℤ offset_at bs y2 k) (run_at bs ts k *ℤ offset_at ls x2 k)

abbrev pub is_leaning : List ℤ → List ℤ → List ℤ → List ℤ → ℤ → ℤ → ℕ → Bool
is_leaning ls bs rs ts dx dy k = int_lt (run_at ls rs k *ℤ dy) (run_at bs ts k *ℤ dx)

abbrev pub is_covering : List ℤ → List ℤ → ℤ → ℕ → Bool
is_covering ls rs column k = int_le (get_or ls k (pos 0)) column && int_lt column (get_or rs k (pos 0))

-- of the n numbers from `from` on, how many pass
unfoldable pub counting : (ℕ → Bool) → ℕ → ℕ → ℕ
counting p from n = count_by p (range_with_len from n)

-- the edge k covers the column and lies above the point of the probe
abbrev pub is_above : List ℤ → List ℤ → List ℤ → List ℤ → ℤ → Probe → ℕ → Bool
is_above ls bs rs ts column z k = is_covering ls rs column k && (is_less ls bs rs ts z.x2 z.y2 k || (is_at_most ls bs rs ts z.x2 z.y2 k && is_leaning ls bs rs ts z.dx z.dy k))

-- the floor of x2 / 2 + dx / 2^64, where dx is small
pub record IsFloor (column x2 dx : ℤ) : Type 0 where
  pub not_left : pos 0 ≤ℤ dx → ((column +ℤ column) ≤ℤ x2) × (x2 <ℤ ((column +ℤ column) +ℤ pos 2))
  pub left : dx <ℤ pos 0 → ((column +ℤ column) <ℤ x2) × (x2 ≤ℤ ((column +ℤ column) +ℤ pos 2))

-- the same of one edge by its ends
abbrev pub one_is_above : ℤ → ℤ → ℤ → ℤ → ℤ → Probe → Bool
one_is_above px py qx qy column z = (int_le px column && int_lt column qx) && (int_lt ((qx -ℤ px) *ℤ (z.y2 -ℤ (py +ℤ py))) ((qy -ℤ py) *ℤ (z.x2 -ℤ (px +ℤ px))) || (int_le ((qx -ℤ px) *ℤ (z.y2 -ℤ (py +ℤ py))) ((qy -ℤ py) *ℤ (z.x2 -ℤ (px +ℤ px))) && int_lt ((qx -ℤ px) *ℤ z.dy) ((qy -ℤ py) *ℤ z.dx)))
