-- Laws that show that the definitions mean what is meant (own).
use Rattle.std.specs.Prelude.{◌≡◌, ◌↔◌, ◌<ℤ◌, ◌≤ℤ◌, Some, pos, ◌+ℤ◌, ◌-ℤ◌, ◌*ℤ◌, ◌-◌, List, Contains, length, slice_get}
use Rattle.geom.specs.declared.point.Pt.{Pt}
use Rattle.geom.specs.declared.segment.Seg.{Seg}
use Rattle.geom.specs.Pixel.{Point, Coincides, pixel}
use Rattle.geom.specs.Box.{IsInBox, greatest_corner, least_corner}
use Rattle.geom.specs.Hot.{CrossIn}
use Rattle.geom.specs.Route.{IsAhead, IsEarlier, IsRoute, Meets}

-- z is in the square of side 1 round c, which has its left and bottom sides, and not the others
pub record IsInSquare (z : Point) (c : Pt) : Type 0 where
  pub left : (z.n *ℤ ((pos 2 *ℤ c.x) -ℤ pos 1)) ≤ℤ (pos 2 *ℤ z.x)
  pub right : (pos 2 *ℤ z.x) <ℤ (z.n *ℤ ((pos 2 *ℤ c.x) +ℤ pos 1))
  pub bottom : (z.n *ℤ ((pos 2 *ℤ c.y) -ℤ pos 1)) ≤ℤ (pos 2 *ℤ z.y)
  pub top : (pos 2 *ℤ z.y) <ℤ (z.n *ℤ ((pos 2 *ℤ c.y) +ℤ pos 1))

-- a point has one pixel: that round whose centre it lies, the nearest point of the grid with halves to the right and up
abbrev pub PixelIsNearest : Type 0
PixelIsNearest = (z : Point) (c : Pt) → (pixel z ≡ c) ↔ IsInSquare z c

-- y and z are one point, written with two denominators
pub record AreOnePoint (y z : Point) : Type 0 where
  pub x_is : y.n *ℤ z.x ≡ z.n *ℤ y.x
  pub y_is : y.n *ℤ z.y ≡ z.n *ℤ y.y

-- the pixel doesn't depend on how the fractions are written
abbrev pub PixelOfAnyFraction : Type 0
PixelOfAnyFraction = (y z : Point) → AreOnePoint y z → pixel y ≡ pixel z

-- a point of the grid is its own pixel
abbrev pub PixelOfGridPoint : Type 0
PixelOfGridPoint = (v : Pt) (z : Point) → Coincides v z → pixel z ≡ v

-- every pixel that a segment meets lies in the closed box of its ends
abbrev pub MetPixelsAreInBounds : Type 0
MetPixelsAreInBounds = (s : Seg) (c : Pt) → Meets s c → IsInBox (least_corner s.a s.b) (greatest_corner s.a s.b) c

-- of two pixels that a segment meets the one is ahead of the other where it is later along the segment
abbrev pub OrderIsAlongSegment : Type 0
OrderIsAlongSegment = (s : Seg) (c e : Pt) → Meets s c → Meets s e → IsEarlier s c e ↔ IsAhead s c e

-- a segment has at most one route
abbrev pub RouteIsOne : Type 0
RouteIsOne = (segments : List Seg) (s : Seg) (route other : List Pt) → IsRoute segments s route → IsRoute segments s other → route ≡ other

-- it begins at the segment's first end and ends at its second
abbrev pub RouteRunsFromEndToEnd : Type 0
RouteRunsFromEndToEnd = (segments : List Seg) (s : Seg) (route : List Pt) → Contains segments s → IsRoute segments s route → (slice_get route 0 ≡ Some s.a) × (slice_get route (length route - 1) ≡ Some s.b)

-- two segments cross in the same pixel when they are exchanged
abbrev pub CrossingIsSymmetric : Type 0
CrossingIsSymmetric = (s t : Seg) (c : Pt) → CrossIn s t c → CrossIn t s c

-- and when one of them is turned round
abbrev pub CrossingHasNoDirection : Type 0
CrossingHasNoDirection = (s turned t : Seg) (c : Pt) → turned.a ≡ s.b → turned.b ≡ s.a → CrossIn s t c → CrossIn turned t c
