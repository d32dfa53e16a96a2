-- Hot pixels of lines in a rectangle, and the lines that may pass it (own).
use Rattle.std.specs.Prelude.{◌≡◌, ◌⊎◌, ◌↔◌, ◌≤ℤ◌, ℤ, pos, ◌+ℤ◌, ◌-ℤ◌, neg_ℤ, nat_abs, Contains, List, map}
use Rattle.geom.specs.declared.point.Pt.{Pt}
use Rattle.geom.specs.declared.rect.Rect.{Rect}
use Rattle.geom.specs.declared.segment.Seg.{Seg}
use Rattle.geom.specs.declared.edge.Edge.{Edge}
use Rattle.geom.specs.Limit.{InLimit, AreInLimit}
use Rattle.geom.specs.Determinant.{determinant}
use Rattle.geom.specs.Route.{Meets}
use Rattle.hot_region.specs.declared.lines.Line.{Line}
use Rattle.hot_region.specs.Lines.{IsLine, CrossAt}
use Rattle.hot_region.specs.Rects.{IsIn}

-- the edges of lines, in their order
abbrev pub edges_of : List Line → List Edge
edges_of lines = map (λ l. l.edge) lines

-- segments on the line meet c
pub record IsMetOn (e : Edge) (c : Pt) : Type 0 where
  pub meets : (s : Seg) → IsLine e s → Meets s c

-- c is an end of one of the lines
pub record IsEndOf (lines : List Edge) (c : Pt) : Type 0 where
  pub e : Edge
  pub listed : Contains lines e
  pub is_end : (e.p ≡ c) ⊎ (e.q ≡ c)

-- two of the lines cross in c
pub record IsCrossing (lines : List Edge) (c : Pt) : Type 0 where
  pub e : Edge
  pub f : Edge
  pub e_listed : Contains lines e
  pub f_listed : Contains lines f
  pub crosses : CrossAt e f c

-- c is an end of one of the lines, or two of them cross in it
abbrev pub IsHotFor : List Edge → Pt → Type 0
IsHotFor lines c = IsEndOf lines c ⊎ IsCrossing lines c

-- new has the points of old, and the ends of the lines that lie in the rectangle
pub record HasEndsToo (rect : Rect) (lines : List Edge) (old new : List Pt) : Type 0 where
  pub same : (c : Pt) → Contains new c ↔ (Contains old c ⊎ (IsEndOf lines c × IsIn rect c))

-- new has the points of old, and the pixels inside that are hot for the lines
pub record HasHotInside (Inside : Pt → Type 0) (lines : List Edge) (old new : List Pt) : Type 0 where
  pub same : (c : Pt) → Contains new c ↔ (Contains old c ⊎ (IsHotFor lines c × Inside c))

-- those inside the rectangle
abbrev pub HasHot : Rect → List Edge → List Pt → List Pt → Type 0
HasHot rect lines old new = HasHotInside (IsIn rect) lines old new

-- part has some of the lines, those that meet a pixel inside among them
pub record AreReaching (Inside : Pt → Type 0) (lines part : List Line) : Type 0 where
  pub among : (l : Line) → Contains part l → Contains lines l
  pub complete : (l : Line) (c : Pt) → Contains lines l → Inside c → IsMetOn l.edge c → Contains part l

-- those that meet a pixel of the rectangle among them
abbrev pub ArePassing : Rect → List Line → List Line → Type 0
ArePassing rect lines part = AreReaching (IsIn rect) lines part

-- the pixels inside are those of two parts
pub record AreParts (Inside First Second : Pt → Type 0) : Type 0 where
  pub same : (c : Pt) → Inside c ↔ (First c ⊎ Second c)

-- the pixels of the rectangle are those of the two
pub record AreHalves (rect first second : Rect) : Type 0 where
  pub same : (c : Pt) → IsIn rect c ↔ (IsIn first c ⊎ IsIn second c)

-- the rectangle has no two pixels
abbrev pub IsOnePixel : Rect → Type 0
IsOnePixel rect = (c d : Pt) → IsIn rect c → IsIn rect d → c ≡ d

-- twice how far the centre of the rectangle is to the left of the line, in the determinant's unit
abbrev pub centre_offset : Rect → Edge → ℤ
centre_offset rect e = determinant (e.q.x -ℤ e.p.x) (e.q.y -ℤ e.p.y) ((rect.lo.x +ℤ rect.hi.x) -ℤ (e.p.x +ℤ e.p.x)) ((rect.lo.y +ℤ rect.hi.y) -ℤ (e.p.y +ℤ e.p.y))

-- twice how far the corners of the square round the rectangle's pixels are from the parallel of the line through its centre
abbrev pub reach : Rect → Edge → ℤ
reach rect e = determinant (pos (nat_abs (e.q.x -ℤ e.p.x))) (pos (nat_abs (e.q.y -ℤ e.p.y))) ((rect.lo.x -ℤ rect.hi.x) -ℤ pos 1) ((rect.hi.y -ℤ rect.lo.y) +ℤ pos 1)

-- the line passes the closed square round the rectangle's pixels
pub record IsNear (rect : Rect) (e : Edge) : Type 0 where
  pub from : neg_ℤ (reach rect e) ≤ℤ centre_offset rect e
  pub to : centre_offset rect e ≤ℤ reach rect e

-- part has the pixels of the rectangle that are within the coordinate limit, and is within it
pub record IsPartInLimit (rect part : Rect) : Type 0 where
  pub within : AreInLimit part.lo part.hi
  pub only : (c : Pt) → IsIn part c → IsIn rect c
  pub all : (c : Pt) → InLimit c → IsIn rect c → IsIn part c
