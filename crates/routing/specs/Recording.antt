-- Records of the segments on lines, as they are found (own).
use Rattle.std.specs.Prelude.{◌≡◌, ◌⊎◌, ◌↔◌, ℕ, ◌<◌, ◌≤◌, All, Contains, List, Some, length, slice_get}
use Rattle.geom.specs.declared.point.Pt.{Pt}
use Rattle.geom.specs.declared.rect.Rect.{Rect}
use Rattle.geom.specs.declared.segment.Seg.{Seg}
use Rattle.hot_region.specs.declared.lines.Line.{Line}
use Rattle.hot_region.specs.Lines.{IsLine}
use Rattle.hot_region.specs.Rects.{IsIn}
use Rattle.hot_region.specs.Halving.{edges_of, IsMetOn, IsHotFor}
use Rattle.routing.specs.declared.on_line.OnLine.{OnLine}
use Rattle.routing.specs.declared.record.Record.{Record}
use Rattle.routing.specs.Cutting.{AreCut}
use Rattle.routing.specs.Pieces.{IsEnd, IsEndRecord}
use Rattle.routing.specs.Steps.{steps_to}

-- ---- the segments of a tile, by lines

-- the table has the segments of these numbers, with their ends
pub record IsTable (segments : List Seg) (numbers : List ℕ) (table : List OnLine) : Type 0 where
  pub only : (x : OnLine) → Contains table x → Contains numbers x.number × ((s : Seg) × (slice_get segments x.number ≡ Some s) × IsLine x.edge s)
  pub all : (k : ℕ) → Contains numbers k → (x : OnLine) × Contains table x × (x.number ≡ k)

-- the table has the portions of the segments of these numbers, cut at ends of them
pub record IsCutTable (segments : List Seg) (numbers : List ℕ) (table : List OnLine) : Type 0 where
  pub whole : List OnLine
  pub is_table : IsTable segments numbers whole
  pub are_cut : AreCut whole whole table

-- each segment of the table stands among those of one of the lines, and only segments on the line do
pub record AreLinesOf (table : List OnLine) (lines : List Line) : Type 0 where
  pub within : All (λ l. l.past ≤ length table) lines
  pub only : (l : Line) (k : ℕ) (x : OnLine) → Contains lines l → l.first ≤ k → k < l.past → slice_get table k ≡ Some x → x.edge ≡ l.edge
  pub some : (l : Line) → Contains lines l → (x : OnLine) × Contains table x × (x.edge ≡ l.edge)
  pub all : (k : ℕ) → k < length table → (l : Line) × Contains lines l × (l.first ≤ k) × (k < l.past)

-- ---- records

-- r tells the pixel, and the steps to it of the segment of this number
pub record IsRecordAt (segments : List Seg) (number : ℕ) (pixel : Pt) (r : Record) : Type 0 where
  pub s : Seg
  pub is_at : slice_get segments number ≡ Some s
  pub numbered : r.segment ≡ number
  pub steps_are : r.steps ≡ steps_to s pixel
  pub pixel_is : r.pixel ≡ pixel

-- r is of one of the segments that stand from the first place on, before the past one, and has the steps to its pixel, which is no end of
-- that segment
pub record IsCopy (segments : List Seg) (table : List OnLine) (first past : ℕ) (r : Record) : Type 0 where
  pub place : ℕ
  pub from : first ≤ place
  pub to : place < past
  pub x : OnLine
  pub entry : slice_get table place ≡ Some x
  pub s : Seg
  pub is_at : slice_get segments x.number ≡ Some s
  pub numbered : r.segment ≡ x.number
  pub steps_are : r.steps ≡ steps_to s r.pixel
  pub inner : ¬ (IsEnd s r.pixel)

-- r tells a pixel that the line meets, of a segment on it
pub record IsRecordAlong (segments : List Seg) (table : List OnLine) (line : Line) (r : Record) : Type 0 where
  pub copy : IsCopy segments table line.first line.past r
  pub met : IsMetOn line.edge r.pixel

-- r tells a pixel that one of the lines meets, of a segment on that
pub record IsRecordOnOne (segments : List Seg) (table : List OnLine) (lines : List Line) (r : Record) : Type 0 where
  pub line : Line
  pub listed : Contains lines line
  pub along : IsRecordAlong segments table line r

-- new has the records of old, and those at the pixel of the segments at these places
pub record AddsAt (segments : List Seg) (table : List OnLine) (first past : ℕ) (pixel : Pt) (old new : List Record) : Type 0 where
  pub same : (r : Record) → Contains new r ↔ (Contains old r ⊎ (IsCopy segments table first past r × (pixel ≡ r.pixel)))

-- new has the records of old, and those of the line at the pixels
pub record AddsAlong (segments : List Seg) (table : List OnLine) (line : Line) (pixels : List Pt) (old new : List Record) : Type 0 where
  pub same : (r : Record) → Contains new r ↔ (Contains old r ⊎ (IsRecordAlong segments table line r × Contains pixels r.pixel))

-- new has the records of old, and those of the lines at the pixels
pub record AddsRecordsAt (segments : List Seg) (table : List OnLine) (lines : List Line) (pixels : List Pt) (old new : List Record) : Type 0 where
  pub same : (r : Record) → Contains new r ↔ (Contains old r ⊎ (IsRecordOnOne segments table lines r × Contains pixels r.pixel))

-- new has the records of old, and those of the lines at the pixels inside that are hot for them
pub record AddsRecordsInside (segments : List Seg) (table : List OnLine) (Inside : Pt → Type 0) (lines : List Line) (old new : List Record) : Type 0 where
  pub same : (r : Record) → Contains new r ↔ (Contains old r ⊎ (IsRecordOnOne segments table lines r × IsHotFor (edges_of lines) r.pixel × Inside r.pixel))

-- ---- ends

-- new has the records of old, and that of the segment of this number at the pixel, if the tile has it
pub record AddsEndAt (tile : Rect) (segments : List Seg) (number : ℕ) (pixel : Pt) (old new : List Record) : Type 0 where
  pub same : (r : Record) → Contains new r ↔ (Contains old r ⊎ (IsRecordAt segments number pixel r × IsIn tile pixel))

-- new has the records of old, and those of the ends of the segments of these numbers in the tile
pub record AddsEnds (tile : Rect) (segments : List Seg) (numbers : List ℕ) (old new : List Record) : Type 0 where
  pub same : (r : Record) → Contains new r ↔ (Contains old r ⊎ (IsEndRecord segments r × Contains numbers r.segment × IsIn tile r.pixel))
