-- The heights of edges in a column (own).
use Rattle.std.specs.Prelude.{Bool, ◌&&◌, int_lt, int_le, pos, ◌≡◌, ◌<ℤ◌, ◌≤ℤ◌, ◌-ℤ◌, ◌*ℤ◌, ℤ}
use Rattle.geom.specs.Determinant.{determinant}
use Rattle.geom.specs.declared.edge.Edge.{Edge}
use Rattle.geom.specs.declared.edge.Counted.{Counted}

-- the test whether an edge crosses the column on the left of x
abbrev pub crosses : ℤ → Counted → Bool
crosses x c = int_lt c.edge.p.x x && int_le x c.edge.q.x

-- twice the height of e in the middle of the column on the left of x, times its run
abbrev pub twice_height : Edge → ℤ → ℤ
twice_height e x = (pos 2 *ℤ determinant (e.q.x -ℤ e.p.x) (e.q.y -ℤ e.p.y) (e.p.x -ℤ x) e.p.y) -ℤ (e.q.y -ℤ e.p.y)

-- e crosses the column on the left of x, with this run, and this height in the middle of the column
pub record IsMeasured (x : ℤ) (e : Edge) (run height : ℤ) : Type 0 where
  pub begun : e.p.x <ℤ x
  pub lasts : x ≤ℤ e.q.x
  pub run_is : run ≡ e.q.x -ℤ e.p.x
  pub height_is : height ≡ twice_height e x

-- the test whether a / m is above b / n
abbrev pub is_above : ℤ → ℤ → ℤ → ℤ → Bool
is_above a m b n = int_lt (m *ℤ b) (n *ℤ a)
