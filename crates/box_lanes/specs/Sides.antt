-- Boxes by columns of their sides.
use Rattle.std.specs.Prelude.{ℕ, ℤ, pos, ◌≡◌, ◌≢◌, ◌<◌, ◌≤ℤ◌, Bool, ◌||◌, List, None, Option, Some, length, map, get_or, int_lt, FitsSigned}
use Rattle.std.specs.Int.{w32}
use Rattle.std.specs.List.{range_with_len}
use lib.Lanes.{mask_l}
use Rattle.geom.specs.declared.point.Pt.{Pt}
use Rattle.geom.specs.declared.rect.Rect.{Rect}
use Rattle.geom.specs.Box.{ShareAPoint}

-- the lower left and the upper right corner of a box
abbrev pub Corners : Type 0
Corners = Pt × Pt

abbrev pub corners : Rect → Corners
corners r = (r.lo, r.hi)

-- the corners of the box whose sides stand at place k of the columns
abbrev pub corners_at : List ℤ → List ℤ → List ℤ → List ℤ → ℕ → Corners
corners_at ls bs rs ts k = (record { x = get_or ls k (pos 0); y = get_or bs k (pos 0) }, record { x = get_or rs k (pos 0); y = get_or ts k (pos 0) })

-- the boxes at the first n places
abbrev pub boxes_of : List ℤ → List ℤ → List ℤ → List ℤ → ℕ → List Corners
boxes_of ls bs rs ts n = map (corners_at ls bs rs ts) (range_with_len 0 n)

-- numbers of an i32 column
pub record IsColumn (xs : List ℤ) : Type 0 where
  pub fits : (k : ℕ) → FitsSigned w32 (get_or xs k (pos 0))

-- at the first n places no box lies the wrong way round
pub record AreOrdered (lows highs : List ℤ) (n : ℕ) : Type 0 where
  pub ordered : (k : ℕ) → k < n → get_or lows k (pos 0) ≤ℤ get_or highs k (pos 0)

-- the box lies in the rectangle
pub record LiesWithin (hull : Rect) (c : Corners) : Type 0 where
  pub left : hull.lo.x ≤ℤ c.0.x
  pub bottom : hull.lo.y ≤ℤ c.0.y
  pub right : c.1.x ≤ℤ hull.hi.x
  pub top : c.1.y ≤ℤ hull.hi.y

-- the hull has the boxes at the first n places; none stands for the hull of no box
pub record AreHeld (hull : Option Rect) (ls bs rs ts : List ℤ) (n : ℕ) : Type 0 where
  pub some : 0 < n → hull ≢ None
  pub held : (k : ℕ) (h : Rect) → k < n → hull ≡ Some h → LiesWithin h (corners_at ls bs rs ts k)

-- the box of number k shares a point with the rectangle
pub record SharesAt (boxes : List Corners) (rect : Rect) (k : ℕ) : Type 0 where
  pub below : k < length boxes
  pub shares : (c : Corners) → ShareAPoint (get_or boxes k c).0 (get_or boxes k c).1 rect.lo rect.hi

-- whether the box lies wholly on one side of the rectangle
abbrev pub is_beside : Corners → Rect → Bool
is_beside c r = int_lt r.hi.x c.0.x || int_lt r.hi.y c.0.y || int_lt c.1.x r.lo.x || int_lt c.1.y r.lo.y

-- the bits of sixteen tests, from `at` on
unfoldable pub sixteen : (ℕ → Bool) → ℕ → ℕ
sixteen p at = mask_l (map p (range_with_len at 16))
