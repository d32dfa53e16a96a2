-- Carriers: lines that have one strand, and what is kept of them (own).
use Rattle.std.specs.Prelude.{◌≡◌, ◌⊎◌, ℤ, Contains, IfSome, List, Some, slice_get}
use Rattle.geom.specs.declared.point.Pt.{Pt}
use Rattle.geom.specs.declared.rect.Rect.{Rect}
use Rattle.hot_region.specs.declared.lines.Line.{Line}
use Rattle.hot_region.specs.declared.bundle.Course.{Course}
use Rattle.hot_region.specs.declared.bundle.Strand.{Strand}
use Rattle.hot_region.specs.declared.carrier.Carried.{Carried}
use Rattle.hot_region.specs.Bundle.{IsStrandSeen}
use Rattle.hot_region.specs.Halving.{edges_of, IsCrossing}
use Rattle.hot_region.specs.Rects.{IsIn}

-- part has some of the lines, and where two of the lines cross in a pixel of the rectangle, two of part cross in it
pub record KeepsCrossings (rect : Rect) (lines part : List Line) : Type 0 where
  pub among : (l : Line) → Contains part l → Contains lines l
  pub crossings : (c : Pt) → IsIn rect c → IsCrossing (edges_of lines) c → IsCrossing (edges_of part) c

-- c has the place of l among the lines, and no strand but that of l
pub record IsCarried (course : Course) (low high : ℤ) (lines : List Line) (c : Carried) (l : Line) : Type 0 where
  pub at : slice_get lines c.place ≡ Some l
  pub strand : IfSome c.strand (λ s. IsStrandSeen course low high l.edge s)

-- the items are those of the lines
pub record AreCarried (course : Course) (low high : ℤ) (lines : List Line) (items : List Carried) : Type 0 where
  pub only : (c : Carried) → Contains items c → (l : Line) × IsCarried course low high lines c l
  pub all : (l : Line) → Contains lines l → (c : Carried) × Contains items c × IsCarried course low high lines c l

-- two items have one strand
pub record HaveOneStrand (c d : Carried) : Type 0 where
  pub strand : Strand
  pub first : c.strand ≡ Some strand
  pub second : d.strand ≡ Some strand

-- the line of c is kept, or that of an item with its strand
pub record IsStoodFor (lines : List Line) (items : List Carried) (kept : List Line) (c : Carried) : Type 0 where
  pub other : Carried
  pub listed : Contains items other
  pub line : Line
  pub at : slice_get lines other.place ≡ Some line
  pub is_kept : Contains kept line
  pub like : (c ≡ other) ⊎ HaveOneStrand c other

-- kept has lines of the items, for each item its own or that of one with its strand
pub record HasOneOfEach (lines : List Line) (items : List Carried) (kept : List Line) : Type 0 where
  pub among : (l : Line) → Contains kept l → Contains lines l
  pub all : (c : Carried) → Contains items c → IsStoodFor lines items kept c
