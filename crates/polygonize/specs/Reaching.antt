-- The vertices that an edge reaches, told by their rows and floors.
use Rattle.std.specs.Prelude.{◌≡◌, ◌&&◌, ◌+◌, ◌<◌, ℕ, ℤ, pos, Bool, List, get_or, int_lt, length}
use Rattle.box_lanes.specs.Sides.{IsColumn}
use Rattle.geom.specs.declared.point.Pt.{Pt}
use Rattle.polygonize.specs.Below.{vertex_at}
use Rattle.polygonize.specs.declared.short.Rows.{Rows}

-- an edge with these rows has points below a height and above a floor
abbrev pub reaches : Rows → ℤ → ℤ → Bool
reaches rows height floor = int_lt rows.low height && int_lt floor rows.high

-- each vertex has its row, and sixteen numbers more stand behind them
pub record AreHeights (vertices : List Pt) (heights : List ℤ) : Type 0 where
  pub room : length heights ≡ length vertices + 16
  pub column : IsColumn heights
  pub each : (r : ℕ) → r < length vertices → get_or heights r (pos 0) ≡ (vertex_at vertices r).y

-- sixteen numbers more stand behind the old ones
pub record IsLengthened (old new : List ℤ) : Type 0 where
  pub room : length new ≡ length old + 16
  pub column : IsColumn old → IsColumn new
  pub kept : (r : ℕ) → r < length old → get_or new r (pos 0) ≡ get_or old r (pos 0)
