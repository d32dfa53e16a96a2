-- Walls, which part the plane, and the pixels of a rectangle behind some of them (own).
use Rattle.std.specs.Prelude.{◌⊎◌, ◌↔◌, ◌≤ℤ◌, Contains, List}
use Rattle.geom.specs.declared.point.Pt.{Pt}
use Rattle.geom.specs.declared.rect.Rect.{Rect}
use Rattle.geom.specs.Determinant.{determinant}
use Rattle.hot_region.specs.declared.wall.Wall.{Wall}
use Rattle.hot_region.specs.Rects.{IsIn}

-- c lies as far to the left of the wall's direction, seen from the origin, as its bound says, or farther
pub record IsBehind (w : Wall) (c : Pt) : Type 0 where
  pub from : w.bound ≤ℤ determinant w.run.dx w.run.dy c.x c.y

-- each point lies behind one of the two
abbrev pub ArePartition : Wall → Wall → Type 0
ArePartition v w = (c : Pt) → IsBehind v c ⊎ IsBehind w c

-- c lies behind each of the walls
abbrev pub IsBehindAll : List Wall → Pt → Type 0
IsBehindAll walls c = (w : Wall) → Contains walls w → IsBehind w c

-- c is a pixel of the rectangle and lies behind each of the walls
pub record IsInside (rect : Rect) (walls : List Wall) (c : Pt) : Type 0 where
  pub in_rect : IsIn rect c
  pub behind : IsBehindAll walls c

-- some are those of the pixels that lie behind each of the walls
pub record AreKept (walls : List Wall) (pixels some : List Pt) : Type 0 where
  pub same : (c : Pt) → Contains some c ↔ (Contains pixels c × IsBehindAll walls c)
