-- Those of some pixels that lie in a rectangle (own).
use Rattle.std.specs.Prelude.{◌↔◌, Contains, List}
use Rattle.geom.specs.declared.point.Pt.{Pt}
use Rattle.geom.specs.declared.rect.Rect.{Rect}
use Rattle.hot_region.specs.Rects.{IsIn}

-- some are those of the pixels that lie in the rectangle
pub record AreThoseIn (rect : Rect) (pixels some : List Pt) : Type 0 where
  pub same : (c : Pt) → Contains some c ↔ (Contains pixels c × IsIn rect c)
