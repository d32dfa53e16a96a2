-- What the calls for C answer for layers that are columns (own).
use Rattle.std.specs.Prelude.{◌≡◌, ◌≤◌, ◌<◌, ◌==◌, ◌⊎◌, ◌++◌, ℕ, ℤ, List, Option, Some, None, drop, if◌then◌else◌, length, map}
use Rattle.geom.specs.declared.edge.Counted.{Counted}
use Rattle.geom.specs.declared.fault.Fault.{Fault}
use Rattle.geom.specs.declared.fault.Fault.TheVariants.{Memory}
use Rattle.geom.specs.declared.op.Op.{Op}
use Rattle.geom.specs.declared.op.Op.TheVariants.{Union, Intersection, Difference, SymDifference}
use Rattle.geom.specs.declared.segment.Seg.{Seg}
use Rattle.geom.specs.Canonical.{Shape}
use Rattle.geom.specs.Rounded.{AreRounded}
use Rattle.geom.specs.Segments.{AreSegments}
use Rattle.geom.specs.Fault as faults
use Rattle.columns.specs.declared.answer.OwnedColumns.{OwnedColumns}
use Rattle.columns.specs.declared.fault.ColumnsFault.{ColumnsFault}
use Rattle.columns.specs.declared.fault.ColumnsFault.TheVariants.{PointRange, RingShort, RingOpen, PointsUneven, FeatureOffset, PolygonOffset, RingOffset}
use Rattle.columns.specs.declared.layout.Columns.{Columns}
use Rattle.columns.specs.declared.layout.Points.TheVariants.{Interleaved}
use Rattle.columns.specs.Answers.{closed_rings, coordinates_of, offsets_from}
use Rattle.columns.specs.Faults.{number_of}
use Rattle.columns.specs.Layout.{joined}
use Rattle.layers.specs.declared.columns_refused.ColumnsRefused.{ColumnsRefused}
use Rattle.layers.specs.declared.columns_refused.ColumnsRefused.TheVariants.{A, B, Run}
use Rattle.engine.specs.ColumnsRuns.{DeclinesColumns}
use Rattle.layers.specs.ColumnsRefusals.{MayRunColumns, rings_of}
use Rattle.results.specs.Results.{IsResult}
use Rattle.engine.specs.Runs.{alone}
use Rattle.overlay_c.specs.declared.columns_answer.OverlayColumnsAnswer.{OverlayColumnsAnswer}
use Rattle.overlay_c.specs.declared.columns_layer.OverlayColumns.{OverlayColumns}
use Rattle.overlay_c.specs.Boundary.{detail_of}

-- the columns of a layer, as it is passed
abbrev pub columns_in : OverlayColumns → Columns
columns_in c = record { points = Interleaved c.coordinates; rings = c.rings; polygons = c.polygons; features = c.features }

-- the operation that the number of a call asks for
abbrev pub op_from : ℕ → Option Op
op_from call =
    if call == 0 then Some Union else (if call == 1 then Some Intersection else (if call == 2 then Some Difference else (if call == 3 then Some SymDifference else None)))

-- ---- results

-- three columns, or what three rooms have
pub record Lists : Type 0 where
  pub coordinates : List ℤ
  pub rings : List ℕ
  pub polygons : List ℕ

abbrev pub lists_of : {M : Type 0} → OwnedColumns M → Lists
lists_of c = record { coordinates = c.coordinates.items; rings = c.rings.items; polygons = c.polygons.items }

-- the columns of these polygons (`AreColumnsOf`)
pub record AreListsOf (shapes : List Shape) (lists : Lists) : Type 0 where
  pub points : lists.coordinates ≡ coordinates_of (joined (joined (map closed_rings shapes)))
  pub rings : lists.rings ≡ offsets_from 0 (joined (map closed_rings shapes))
  pub polygons : lists.polygons ≡ offsets_from 0 (map closed_rings shapes)

-- the layers, with at most so many segments, and the tile side are within their limits, and these are the columns of the polygons of the
-- result of the operation that is asked for
pub record IsColumnsResult (limit call side : ℕ) (a b : Columns) (lists : Lists) : Type 0 where
  pub op : Op
  pub asked : op_from call ≡ Some op
  pub may : MayRunColumns limit (alone side) a b
  pub segments : List Seg
  pub are_segments : AreSegments (rings_of a) (rings_of b) segments
  pub counted : List Counted
  pub rounded : ∥ AreRounded segments counted ∥₁
  pub shapes : List Shape
  pub result : IsResult op counted shapes
  pub columns : AreListsOf shapes lists

-- ---- answers

-- an answer that tells of no columns
abbrev pub refused_answer : (status number part detail : ℕ) → OverlayColumnsAnswer
refused_answer status number part detail = record { coordinates = 0; rings = 0; polygons = 0; detail = detail; status = status; number = number; part = part }

-- an answer that tells the lengths of columns
abbrev pub lengths_answer : ℕ → Lists → OverlayColumnsAnswer
lengths_answer status c = record { coordinates = length c.coordinates; rings = length c.rings; polygons = length c.polygons; detail = 0; status = status; number = 0; part = 0 }

-- the number of the point, ring or offset that a fault of columns tells
abbrev pub columns_detail : ColumnsFault → ℕ
columns_detail (PointRange at) = at
columns_detail (RingShort at) = at
columns_detail (RingOpen at) = at
columns_detail PointsUneven = 0
columns_detail (FeatureOffset at) = at
columns_detail (PolygonOffset at) = at
columns_detail (RingOffset at) = at

-- 1 where memory ran out, otherwise 3
abbrev pub columns_status : Fault → ℕ
columns_status Memory = 1
columns_status fault = 3

-- an answer that tells of a refusal
abbrev pub columns_answer : ColumnsRefused → OverlayColumnsAnswer
columns_answer (A f) = refused_answer 3 (number_of f) 0 (columns_detail f)
columns_answer (B f) = refused_answer 3 (number_of f) 1 (columns_detail f)
columns_answer (Run f) = refused_answer (columns_status f) (faults.number_of f) 2 (detail_of f)

-- why there are no columns
pub data FailsColumns (limit call side : ℕ) (a b : Columns) : OverlayColumnsAnswer → Type 0 where
  no_call : op_from call ≡ None → FailsColumns limit call side a b (refused_answer 2 0 0 0)
  declined : (op : Op) → op_from call ≡ Some op → (refused : ColumnsRefused) → DeclinesColumns limit (alone side) a b refused → FailsColumns limit call side a b (columns_answer refused)

-- ---- rooms

-- the room begins with the items, and is as before behind them
pub record HoldsItems {X : Type 0} (items before after : List X) : Type 0 where
  pub fits : length items ≤ length before
  pub holds : after ≡ items ++ drop (length items) before

pub record HoldLists (c before after : Lists) : Type 0 where
  pub coordinates : HoldsItems c.coordinates before.coordinates after.coordinates
  pub rings : HoldsItems c.rings before.rings after.rings
  pub polygons : HoldsItems c.polygons before.polygons after.polygons

-- some column is longer than its room
abbrev pub IsSmallFor : Lists → Lists → Type 0
IsSmallFor c rooms = (length rooms.coordinates < length c.coordinates) ⊎ ((length rooms.rings < length c.rings) ⊎ (length rooms.polygons < length c.polygons))

-- the rooms are as before
pub record AreKept (before after : Lists) : Type 0 where
  pub coordinates : after.coordinates ≡ before.coordinates
  pub rings : after.rings ≡ before.rings
  pub polygons : after.polygons ≡ before.polygons

-- the columns were put into the rooms, or don't fit, and the rooms are as before
abbrev pub IsPutOrSmall : Lists → Lists → Lists → OverlayColumnsAnswer → Type 0
IsPutOrSmall c before after answer = (HoldLists c before after × (answer ≡ lengths_answer 0 c)) ⊎ (IsSmallFor c before × AreKept before after × (answer ≡ lengths_answer 4 c))

-- how a call that fills rooms ends, by which columns are asked for and why there may be none: only an answer changes the rooms, and nothing
-- behind its columns
pub data FillsRooms (AreColumns : Lists → Type 0) (IsFailure : OverlayColumnsAnswer → Type 0) (before after : Lists) : OverlayColumnsAnswer → Type 0 where
  filled : (c : Lists) → AreColumns c → HoldLists c before after → FillsRooms AreColumns IsFailure before after (lengths_answer 0 c)
  small : (c : Lists) → AreColumns c → IsSmallFor c before → AreKept before after → FillsRooms AreColumns IsFailure before after (lengths_answer 4 c)
  none_filled : {answer : OverlayColumnsAnswer} → IsFailure answer → AreKept before after → FillsRooms AreColumns IsFailure before after answer
