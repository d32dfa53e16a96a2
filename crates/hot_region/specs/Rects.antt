-- The points of a rectangle.
use Rattle.geom.specs.declared.point.Pt.{Pt}
use Rattle.geom.specs.declared.rect.Rect.{Rect}
use Rattle.geom.specs.Box.{IsInBox}

-- p lies in the closed rectangle r
abbrev pub IsIn : Rect → Pt → Type 0
IsIn r p = IsInBox r.lo r.hi p
