-- Runs of 256 boxes, each with a box that has all of them (own).
use Rattle.std.specs.Prelude.{◌≡◌, ◌<◌, ◌≤ℤ◌, ◌/◌, ℕ, List, get_or, length, map}
use Rattle.geom.specs.declared.rect.Rect.{Rect}
use Rattle.lane_tests.specs.Columns.{Ends, corners, nowhere}

-- the box of the first corners has that of the second
pub record Covers (a b : Ends) : Type 0 where
  pub left : a.0.x ≤ℤ b.0.x
  pub bottom : a.0.y ≤ℤ b.0.y
  pub right : b.1.x ≤ℤ a.1.x
  pub top : b.1.y ≤ℤ a.1.y

abbrev pub hull_at : List Rect → ℕ → Ends
hull_at hulls run = get_or (map corners hulls) run nowhere

-- each hull of old lies in that of new, and the box in that of its run
pub record HasHeld (run : ℕ) (rect : Rect) (old new : List Rect) : Type 0 where
  pub longer : (k : ℕ) → k < length old → k < length new
  pub kept : (k : ℕ) → k < length old → Covers (hull_at new k) (hull_at old k)
  pub inside : run < length new
  pub held : Covers (hull_at new run) (corners rect)

-- each pair lies in the hull of its run
pub record AreHulls (hulls : List Rect) (pairs : List Ends) : Type 0 where
  pub inside : (k : ℕ) → k < length pairs → k / 256 < length hulls
  pub covers : (k : ℕ) → k < length pairs → Covers (hull_at hulls (k / 256)) (get_or pairs k nowhere)
