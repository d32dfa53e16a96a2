-- Lines of which nearly all run side by side, and the others (own).
use Rattle.std.specs.Prelude.{◌≡◌, ◌⊎◌, ◌<◌, AllPairs, Contains, List, Some, length}
use Rattle.geom.specs.declared.point.Pt.{Pt}
use Rattle.geom.specs.declared.rect.Rect.{Rect}
use Rattle.geom.specs.declared.edge.Edge.{Edge}
use Rattle.hot_region.specs.declared.lines.Line.{Line}
use Rattle.hot_region.specs.declared.bundle.Strand.{Strand}
use Rattle.hot_region.specs.declared.carrier.Carried.{Carried}
use Rattle.hot_region.specs.Bundle.{IsFollowedBy}
use Rattle.hot_region.specs.Halving.{edges_of, IsEndOf}
use Rattle.hot_region.specs.Lines.{CrossAt}
use Rattle.hot_region.specs.Rects.{IsIn}

-- two items have strands, and that of d follows that of c
pub record AreInOrder (c d : Carried) : Type 0 where
  pub s : Strand
  pub t : Strand
  pub first : c.strand ≡ Some s
  pub second : d.strand ≡ Some t
  pub follows : IsFollowedBy s t

-- there are several items, each of them in order with those behind it
pub record AreAscending (items : List Carried) : Type 0 where
  pub several : 1 < length items
  pub in_order : AllPairs AreInOrder items

-- each line is in one of two lists, which have no others
pub record AreParted (lines beside others : List Line) : Type 0 where
  pub beside_among : (l : Line) → Contains beside l → Contains lines l
  pub others_among : (l : Line) → Contains others l → Contains lines l
  pub all : (l : Line) → Contains lines l → Contains beside l ⊎ Contains others l

-- others has some of the lines: wherever lines end or two of them cross in the rectangle, one that does is among them
pub record TakePart (rect : Rect) (lines others : List Line) : Type 0 where
  pub among : (l : Line) → Contains others l → Contains lines l
  pub ends : (c : Pt) → IsIn rect c → IsEndOf (edges_of lines) c → IsEndOf (edges_of others) c
  pub crossings : (e f : Edge) (c : Pt) → IsIn rect c → Contains (edges_of lines) e → Contains (edges_of lines) f → CrossAt e f c → Contains (edges_of others) e ⊎ Contains (edges_of others) f
