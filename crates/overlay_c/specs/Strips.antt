-- What the calls for C answer for the phases of a rounding by strips (own).
use Rattle.std.specs.Prelude.{◌≡◌, ◌≢◌, ◌<◌, ◌≤◌, ◌≤ℤ◌, ◌+◌, ◌++◌, ◌-◌, ◌⊎◌, ℕ, ℤ, pos, List, [], None, Some, Option, get_or, length, map, slice_get, take}
use Rattle.geom.specs.declared.point.Pt.{Pt}
use Rattle.geom.specs.declared.segment.Seg.{Seg}
use Rattle.geom.specs.declared.segment.Source.{Source}
use Rattle.geom.specs.declared.segment.Source.TheVariants.{A, B}
use Rattle.geom.specs.declared.edge.Counted.{Counted}
use Rattle.geom.specs.Limit.{AreInLimit}
use Rattle.geom.specs.Order.{IsBefore}
use Rattle.geom.specs.Rounded.{AreRounded}
use Rattle.geom.specs.Segments.{ring_steps}
use Rattle.columns.specs.declared.fault.ColumnsFault.{ColumnsFault}
use Rattle.columns.specs.declared.layout.Columns.{Columns}
use Rattle.columns.specs.Answers.{offsets_from}
use Rattle.columns.specs.Faults.{number_of}
use Rattle.columns.specs.Layout.{joined, plain, rings_in}
use Rattle.columns.specs.Refusals.{AreAccepted, AreRefused}
use Rattle.columns.specs.Segments.{HasSteps}
use Rattle.std.specs.List.{flat_map}
use Rattle.strips_law.specs.declared.line.Line.{Line}
use Rattle.strips_law.specs.declared.line.Open.{Open}
use Rattle.strips_law.specs.declared.line.Carried.{Carried}
use Rattle.strips_law.specs.Strips.{AreAcross, AreCarried, AreEdgesOf, AreLinesFrom, AreOrdered, IsRoundedStrip, lines_in, strip_at}
use Rattle.phases.specs.Scattered.{AreByStrip}
use Rattle.overlay_c.specs.declared.strip_answer.OverlayStripAnswer.{OverlayStripAnswer}
use Rattle.overlay_c.specs.declared.strip_items.OverlayLine.{OverlayLine}
use Rattle.overlay_c.specs.declared.strip_items.OverlayOpen.{OverlayOpen}
use Rattle.overlay_c.specs.declared.strip_items.OverlayCarried.{OverlayCarried}
use Rattle.overlay_c.specs.declared.strip_items.OverlayCounted.{OverlayCounted}
use Rattle.overlay_c.specs.Columns.{HoldsItems, columns_detail}

-- ---- the items of lists, as they are told

-- the number of a layer
abbrev pub layer_number : Source → ℕ
layer_number A = 0
layer_number B = 1

-- a line, as C sees it
abbrev pub told_line : Line → OverlayLine
told_line l = record { number = l.number; layer = layer_number l.segment.layer; ax = l.segment.a.x; ay = l.segment.a.y; bx = l.segment.b.x; by = l.segment.b.y }

-- a line with this number of this layer, with its pixel, if there is one
abbrev pub told_near : ℕ → ℕ → Option Pt → OverlayOpen
told_near number layer None = record { number = number; layer = layer; has_pixel = 0; x = pos 0; y = pos 0 }
told_near number layer (Some p) = record { number = number; layer = layer; has_pixel = 1; x = p.x; y = p.y }

-- a line that crosses a border, as C sees it
abbrev pub told_open : Open → OverlayOpen
told_open o = told_near o.number (layer_number o.layer) o.near

-- what is carried, as C sees it
abbrev pub told_carried : Carried → OverlayCarried
told_carried c = record { number = c.number; x = c.pixel.x; y = c.pixel.y }

-- a rounded edge, as C sees it
abbrev pub told_counted : Counted → OverlayCounted
told_counted c = record { px = c.edge.p.x; py = c.edge.p.y; qx = c.edge.q.x; qy = c.edge.q.y; in_a = c.in_a; in_b = c.in_b }

-- the end of a line that is told first
abbrev pub line_start : OverlayLine → Pt
line_start l = record { x = l.ax; y = l.ay }

-- and the other one
abbrev pub line_end : OverlayLine → Pt
line_end l = record { x = l.bx; y = l.by }

-- the end of an edge that is told first
abbrev pub counted_start : OverlayCounted → Pt
counted_start c = record { x = c.px; y = c.py }

-- and the other one
abbrev pub counted_end : OverlayCounted → Pt
counted_end c = record { x = c.qx; y = c.qy }

-- ---- what lists have to be

-- the item at a place is one of its list, and stands behind the one before it
pub record IsInPlace {X : Type 0} (IsItem : X → Type 0) (Before : X → X → Type 0) (items : List X) (place : ℕ) : Type 0 where
  pub is_item : (d : X) → IsItem (get_or items place d)
  pub behind : (d : X) → 0 < place → Before (get_or items (place - 1) d) (get_or items place d)

-- each item is in place
abbrev pub AreInPlace : {X : Type 0} → (X → Type 0) → (X → X → Type 0) → List X → Type 0
AreInPlace IsItem Before items = (place : ℕ) → place < length items → IsInPlace IsItem Before items place

-- the first item that isn't
pub record IsFirstBad {X : Type 0} (IsItem : X → Type 0) (Before : X → X → Type 0) (items : List X) (place : ℕ) : Type 0 where
  pub within : place < length items
  pub before : (k : ℕ) → k < place → IsInPlace IsItem Before items k
  pub bad : ¬ (IsInPlace IsItem Before items place)

-- where any order will do
abbrev pub AnyOrder : {X : Type 0} → X → X → Type 0
AnyOrder x y = Unit {0}

-- a segment of a layer with its lesser end first
pub record IsLine (l : OverlayLine) : Type 0 where
  pub layer : l.layer < 2
  pub ordered : IsBefore (line_start l) (line_end l)

-- it has a column of the strip
pub record IsWithinStrip (cuts : List ℤ) (strip : ℕ) (l : OverlayLine) : Type 0 where
  pub begins : strip_at cuts (line_start l) ≤ strip
  pub ends : strip ≤ strip_at cuts (line_end l)

-- such a segment within the limit, with a column of the strip
pub record IsStripLine (cuts : List ℤ) (strip : ℕ) (l : OverlayLine) : Type 0 where
  pub is_line : IsLine l
  pub in_limit : AreInLimit (line_start l) (line_end l)
  pub within : IsWithinStrip cuts strip l

-- by their numbers
abbrev pub IsLineBefore : OverlayLine → OverlayLine → Type 0
IsLineBefore l m = l.number < m.number

-- a line of a layer, with a pixel, or with zeros where there is none
pub record IsOpen (o : OverlayOpen) : Type 0 where
  pub layer : o.layer < 2
  pub flag : o.has_pixel < 2
  pub none : o.has_pixel ≡ 0 → (o.x ≡ pos 0) × (o.y ≡ pos 0)

-- by their numbers
abbrev pub IsOpenBefore : OverlayOpen → OverlayOpen → Type 0
IsOpenBefore o p = o.number < p.number

-- any number may have any pixel
abbrev pub IsCarried : OverlayCarried → Type 0
IsCarried c = Unit {0}

-- by their numbers
abbrev pub IsCarriedBefore : OverlayCarried → OverlayCarried → Type 0
IsCarriedBefore c d = c.number < d.number

-- any column is a cut
abbrev pub IsCut : ℤ → Type 0
IsCut c = Unit {0}

-- cuts don't fall; two of them may be one
abbrev pub IsCutBefore : ℤ → ℤ → Type 0
IsCutBefore c d = c ≤ℤ d

-- an edge with its lesser end first
abbrev pub IsCounted : OverlayCounted → Type 0
IsCounted c = IsBefore (counted_start c) (counted_end c)

-- by the lesser end, then by the greater one
abbrev pub IsCountedBefore : OverlayCounted → OverlayCounted → Type 0
IsCountedBefore c d = IsBefore (counted_start c) (counted_start d) ⊎ ((counted_start c ≡ counted_start d) × IsBefore (counted_end c) (counted_end d))

-- lists of the same numbers, up to this place
pub record IsFirstDifference (ms ns : List ℕ) (place : ℕ) : Type 0 where
  pub same : take place ms ≡ take place ns
  pub differ : slice_get ms place ≢ slice_get ns place

-- where a line has no pixel, one is carried for it
abbrev pub IsKnown : List OverlayCarried → OverlayOpen → Type 0
IsKnown carried o = o.has_pixel ≡ 0 → (k : ℕ) × (k < length carried) × ((d : OverlayCarried) → (get_or carried k d).number ≡ o.number)

-- no edge of the list is this one
abbrev pub IsOther : List OverlayCounted → OverlayCounted → Type 0
IsOther edges c = (k : ℕ) (d : OverlayCounted) → k < length edges → (counted_start (get_or edges k d) ≡ counted_start c) × (counted_end (get_or edges k d) ≡ counted_end c) → ⊥

-- ---- three rooms

-- three lists, or what three rooms have; a call with fewer rooms leaves the others empty
pub record Lists (X Y Z : Type 0) : Type 0 where
  pub first : List X
  pub second : List Y
  pub third : List Z

-- the lists of three rooms
abbrev pub three_lists : {X Y Z : Type 0} → List X → List Y → List Z → Lists X Y Z
three_lists xs ys zs = record { first = xs; second = ys; third = zs }

-- of two rooms
abbrev pub two_lists : {X Y : Type 0} → List X → List Y → Lists X Y ℕ
two_lists xs ys = three_lists xs ys []

-- of one room
abbrev pub one_list : {X : Type 0} → List X → Lists X ℕ ℕ
one_list xs = three_lists xs [] []

-- each room begins with its list, and is as before behind it
pub record HoldAll {X Y Z : Type 0} (lists before after : Lists X Y Z) : Type 0 where
  pub first : HoldsItems lists.first before.first after.first
  pub second : HoldsItems lists.second before.second after.second
  pub third : HoldsItems lists.third before.third after.third

-- some list is longer than its room
abbrev pub AreLong : {X Y Z : Type 0} → Lists X Y Z → Lists X Y Z → Type 0
AreLong lists rooms = (length rooms.first < length lists.first) ⊎ ((length rooms.second < length lists.second) ⊎ (length rooms.third < length lists.third))

-- the rooms are as before
pub record AreKept {X Y Z : Type 0} (before after : Lists X Y Z) : Type 0 where
  pub first : after.first ≡ before.first
  pub second : after.second ≡ before.second
  pub third : after.third ≡ before.third

-- ---- answers

-- an answer that tells of no lists
abbrev pub told_of_strip : (status number part detail : ℕ) → OverlayStripAnswer
told_of_strip status number part detail = record { first = 0; second = 0; third = 0; detail = detail; status = status; number = number; part = part }

-- an answer that tells the lengths of lists
abbrev pub strip_lengths : (status first second third : ℕ) → OverlayStripAnswer
strip_lengths status first second third = record { first = first; second = second; third = third; detail = 0; status = status; number = 0; part = 0 }

-- an answer that tells the lengths of these lists
abbrev pub lengths_told : {X Y Z : Type 0} → ℕ → Lists X Y Z → OverlayStripAnswer
lengths_told status lists = strip_lengths status (length lists.first) (length lists.second) (length lists.third)

-- the lists were put into the rooms, or don't fit, and the rooms are as before
abbrev pub IsPutOrSmall : {X Y Z : Type 0} → Lists X Y Z → Lists X Y Z → Lists X Y Z → OverlayStripAnswer → Type 0
IsPutOrSmall lists before after answer = (HoldAll lists before after × (answer ≡ lengths_told 0 lists)) ⊎ (AreLong lists before × AreKept before after × (answer ≡ lengths_told 4 lists))

-- how a call ends, by which lists are asked for and why there may be none: only an answer changes the rooms, and nothing behind its lists
pub data Fills {X Y Z : Type 0} (AreLists : Lists X Y Z → Type 0) (IsFailure : OverlayStripAnswer → Type 0) (before after : Lists X Y Z) : OverlayStripAnswer → Type 0 where
  filled : (lists : Lists X Y Z) → AreLists lists → HoldAll lists before after → Fills AreLists IsFailure before after (lengths_told 0 lists)
  small : (lists : Lists X Y Z) → AreLists lists → AreLong lists before → AreKept before after → Fills AreLists IsFailure before after (lengths_told 4 lists)
  none_filled : {answer : OverlayStripAnswer} → IsFailure answer → AreKept before after → Fills AreLists IsFailure before after answer

-- ---- scatter

-- The columns are accepted as a part of the layer with this number, and these are the lines of their segments, numbered from first on, that reach
-- each strip, one strip behind another, and where those of each strip begin.
pub record AreScattered (cuts : List ℤ) (layer first : ℕ) (part : Columns) (lists : Lists OverlayLine ℕ ℕ) : Type 0 where
  pub ascending : AreInPlace IsCut IsCutBefore cuts
  pub accepted : AreAccepted part
  pub source : Source
  pub is_source : layer_number source ≡ layer
  pub segments : List Seg
  pub are_segments : HasSteps source (flat_map ring_steps (plain (rings_in part))) [] segments
  pub lines : List Line
  pub are_lines : AreLinesFrom first segments lines
  pub by_strip : List (List Line)
  pub are_by_strip : AreByStrip cuts lines by_strip
  pub lines_are : lists.first ≡ map told_line (joined by_strip)
  pub strips_are : lists.second ≡ offsets_from 0 by_strip

-- why there are none: no layer has the number, the cuts fall, the columns are refused, or memory ran out
pub data FailsScatter (cuts : List ℤ) (layer : ℕ) (part : Columns) : OverlayStripAnswer → Type 0 where
  no_layer : 2 ≤ layer → FailsScatter cuts layer part (told_of_strip 2 0 0 0)
  bad_cut : layer < 2 → (place : ℕ) → IsFirstBad IsCut IsCutBefore cuts place → FailsScatter cuts layer part (told_of_strip 3 18 3 place)
  refused : layer < 2 → AreInPlace IsCut IsCutBefore cuts → (fault : ColumnsFault) → AreRefused part fault → FailsScatter cuts layer part (told_of_strip 3 (number_of fault) 0 (columns_detail fault))
  no_memory : layer < 2 → AreInPlace IsCut IsCutBefore cuts → AreAccepted part → FailsScatter cuts layer part (told_of_strip 1 10 0 0)

-- ---- round

-- the cuts ascend, the strip is one of those between them, and these are lines of it
pub record AreStripLines (cuts : List ℤ) (strip : ℕ) (lines : List OverlayLine) : Type 0 where
  pub is_strip : strip ≤ length cuts
  pub ascending : AreInPlace IsCut IsCutBefore cuts
  pub in_place : AreInPlace (IsStripLine cuts strip) IsLineBefore lines

-- the lists of a rounded strip, of these lines
pub record AreRoundedLists (cuts : List ℤ) (strip : ℕ) (passed : List OverlayLine) (lists : Lists OverlayCounted OverlayOpen OverlayOpen) : Type 0 where
  pub sound : AreStripLines cuts strip passed
  pub lines : List Line
  pub lines_are : passed ≡ map told_line lines
  pub inner : List Counted
  pub left : List Open
  pub right : List Open
  pub rounded : ∥ IsRoundedStrip cuts strip lines inner left right ∥₁
  pub inner_is : lists.first ≡ map told_counted inner
  pub left_is : lists.second ≡ map told_open left
  pub right_is : lists.third ≡ map told_open right

-- why there are none: no such strip, a cut or a line out of place, or memory ran out
pub data FailsRound (cuts : List ℤ) (strip : ℕ) (lines : List OverlayLine) : OverlayStripAnswer → Type 0 where
  no_strip : length cuts < strip → FailsRound cuts strip lines (told_of_strip 2 0 0 0)
  bad_cut : strip ≤ length cuts → (place : ℕ) → IsFirstBad IsCut IsCutBefore cuts place → FailsRound cuts strip lines (told_of_strip 3 18 3 place)
  bad_line : strip ≤ length cuts → AreInPlace IsCut IsCutBefore cuts → (place : ℕ) → IsFirstBad (IsStripLine cuts strip) IsLineBefore lines place → FailsRound cuts strip lines (told_of_strip 3 18 0 place)
  no_memory : AreStripLines cuts strip lines → FailsRound cuts strip lines (told_of_strip 1 10 0 0)

-- ---- bridge

-- each list is in place
pub record AreBorderLists (left right : List OverlayOpen) (carried : List OverlayCarried) : Type 0 where
  pub left_in : AreInPlace IsOpen IsOpenBefore left
  pub right_in : AreInPlace IsOpen IsOpenBefore right
  pub carried_in : AreInPlace IsCarried IsCarriedBefore carried

-- the numbers of the lines
abbrev pub open_numbers : List OverlayOpen → List ℕ
open_numbers opens = map (λ o. o.number) opens

-- the numbers of the lines that are carried
abbrev pub carried_numbers : List OverlayCarried → List ℕ
carried_numbers carried = map (λ c. c.number) carried

-- and they don't contradict each other
pub record DoBordersAgree (left right : List OverlayOpen) (carried : List OverlayCarried) : Type 0 where
  pub in_place : AreBorderLists left right carried
  pub same : open_numbers right ≡ carried_numbers carried
  pub known : AreInPlace (IsKnown carried) AnyOrder left

-- the edges across the border on the right of a strip, and what is carried over that on its left, wherever the lists are those of a strip
pub record AreBridgedLists (passed_left passed_right : List OverlayOpen) (passed : List OverlayCarried) (lists : Lists OverlayCounted OverlayCarried ℕ) : Type 0 where
  pub sound : DoBordersAgree passed_left passed_right passed
  pub left : List Open
  pub left_is : passed_left ≡ map told_open left
  pub right : List Open
  pub right_is : passed_right ≡ map told_open right
  pub carried : List Carried
  pub carried_is : passed ≡ map told_carried carried
  pub across : List Counted
  pub across_is : lists.first ≡ map told_counted across
  pub next : List Carried
  pub next_is : lists.second ≡ map told_carried next
  pub bridged : (cuts : List ℤ) (strip : ℕ) (lines : List Line) (inner : List Counted) → AreOrdered lines → ∥ IsRoundedStrip cuts strip lines inner left right ∥₁ → ∥ AreCarried cuts (strip + 1) lines carried ∥₁
      → ∥ AreAcross cuts strip lines across × AreCarried cuts strip lines next ∥₁

-- why there are none: a list out of place, lists that contradict each other, or memory ran out
pub data FailsBridge (left right : List OverlayOpen) (carried : List OverlayCarried) : OverlayStripAnswer → Type 0 where
  bad_left : (place : ℕ) → IsFirstBad IsOpen IsOpenBefore left place → FailsBridge left right carried (told_of_strip 3 18 0 place)
  bad_right : AreInPlace IsOpen IsOpenBefore left → (place : ℕ) → IsFirstBad IsOpen IsOpenBefore right place → FailsBridge left right carried (told_of_strip 3 18 1 place)
  bad_carried : AreInPlace IsOpen IsOpenBefore left → AreInPlace IsOpen IsOpenBefore right → (place : ℕ) → IsFirstBad IsCarried IsCarriedBefore carried place → FailsBridge left right carried (told_of_strip 3 18 2 place)
  differ : AreBorderLists left right carried → (place : ℕ) → IsFirstDifference (open_numbers right) (carried_numbers carried) place → FailsBridge left right carried (told_of_strip 3 19 1 place)
  lost : AreBorderLists left right carried → open_numbers right ≡ carried_numbers carried → (place : ℕ) → IsFirstBad (IsKnown carried) AnyOrder left place → FailsBridge left right carried (told_of_strip 3 19 0 place)
  no_memory : DoBordersAgree left right carried → FailsBridge left right carried (told_of_strip 1 10 0 0)

-- ---- edges

-- both lists are in place
pub record AreEdgeLists (inner across : List OverlayCounted) : Type 0 where
  pub inner_in : AreInPlace IsCounted IsCountedBefore inner
  pub across_in : AreInPlace IsCounted IsCountedBefore across

-- and have no edge in common
pub record AreApart (inner across : List OverlayCounted) : Type 0 where
  pub in_place : AreEdgeLists inner across
  pub others : AreInPlace (IsOther inner) AnyOrder across

-- the edges whose lesser end lies in a strip, wherever the lists are those of a strip
pub record AreEdgesMerged (passed_inner passed_across : List OverlayCounted) (lists : Lists OverlayCounted ℕ ℕ) : Type 0 where
  pub sound : AreApart passed_inner passed_across
  pub inner : List Counted
  pub inner_is : passed_inner ≡ map told_counted inner
  pub across : List Counted
  pub across_is : passed_across ≡ map told_counted across
  pub edges : List Counted
  pub edges_are : lists.first ≡ map told_counted edges
  pub merged : (cuts : List ℤ) (strip : ℕ) (lines : List Line) (left right : List Open) → AreOrdered lines → ∥ IsRoundedStrip cuts strip lines inner left right ∥₁ → ∥ AreAcross cuts strip lines across ∥₁
      → ∥ AreEdgesOf cuts strip lines edges ∥₁

-- why there are none: a list out of place, an edge in both lists, or memory ran out
pub data FailsEdges (inner across : List OverlayCounted) : OverlayStripAnswer → Type 0 where
  bad_inner : (place : ℕ) → IsFirstBad IsCounted IsCountedBefore inner place → FailsEdges inner across (told_of_strip 3 18 0 place)
  bad_across : AreInPlace IsCounted IsCountedBefore inner → (place : ℕ) → IsFirstBad IsCounted IsCountedBefore across place → FailsEdges inner across (told_of_strip 3 18 1 place)
  common : AreEdgeLists inner across → (place : ℕ) → IsFirstBad (IsOther inner) AnyOrder across place → FailsEdges inner across (told_of_strip 3 19 1 place)
  no_memory : AreApart inner across → FailsEdges inner across (told_of_strip 1 10 0 0)

-- ---- all strips

-- no two lists are told alike
abbrev pub IsToldOfOne : {X Y : Type 0} → (X → Y) → Type 0
IsToldOfOne {X} told = (xs ys : List X) → map told xs ≡ map told ys → xs ≡ ys

-- the calls were made for a strip: of all lines with those that reach it, with what was carried over the border on its right, and with what they
-- told of it themselves
pub record IsStripDone (cuts : List ℤ) (strip : ℕ) (lines : List Line) (carried next : List OverlayCarried) (edges : List OverlayCounted) : Type 0 where
  pub inner : List OverlayCounted
  pub left : List OverlayOpen
  pub right : List OverlayOpen
  pub across : List OverlayCounted
  pub rounded : AreRoundedLists cuts strip (map told_line (lines_in cuts strip lines)) (three_lists inner left right)
  pub bridged : AreBridgedLists left right carried (two_lists across next)
  pub merged : AreEdgesMerged inner across (one_list edges)

-- they were made for each strip from this one on, the last one first; what was told as next of this one, and the edges of all, one strip behind another
pub data AreStripsDone (cuts : List ℤ) (lines : List Line) : ℕ → List OverlayCarried → List OverlayCounted → Type 0 where
  none_done : AreStripsDone cuts lines (length cuts + 1) [] []
  one_done : {strip : ℕ} {carried next : List OverlayCarried} {edges behind : List OverlayCounted} → AreStripsDone cuts lines (strip + 1) carried behind → IsStripDone cuts strip lines carried next edges → AreStripsDone cuts lines strip next (edges ++ behind)

-- where they were made for all strips of the lines of segments, the edges are the rounded edges of the segments
abbrev pub StripsAreRounded : Type 0
StripsAreRounded = (cuts : List ℤ) (segments : List Seg) (lines : List Line) (next : List OverlayCarried) (all : List OverlayCounted) → AreLinesFrom 0 segments lines → AreStripsDone cuts lines 0 next all
    → ∥ ((edges : List Counted) × (all ≡ map told_counted edges) × AreRounded segments edges) ∥₁
