-- What the call for C answers for polygons that are brought in order, and what the calls tell of the polygons of a map by strips (own).
use Rattle.std.specs.Prelude.{◌≡◌, ◌≢◌, ◌<◌, ◌≤◌, ◌-◌, ◌%◌, ◌+◌, ◌++◌, ◌↔◌, ℕ, ℤ, List, Contains, flat_map, get_or, length, map}
use Rattle.std.specs.List.{AllZip}
use Rattle.geom.specs.declared.op.Op.{Op}
use Rattle.geom.specs.declared.point.Pt.{Pt}
use Rattle.geom.specs.declared.edge.Counted.{Counted}
use Rattle.geom.specs.declared.directed.DirectedEdge.{DirectedEdge}
use Rattle.geom.specs.Canonical.{Shape}
use Rattle.geom.specs.Directed.{AreResultEdges}
use Rattle.columns.specs.Answers.{coordinates_of, offsets_from}
use Rattle.columns.specs.Layout.{joined, pairs}
use Rattle.points_law.specs.Law.{AreLayers}
use Rattle.parts_law.specs.Ties.{AreComing, AreKnown}
use Rattle.polygon_order.specs.Order.{AreByShell, AreWhole, IsShellTwice, polygons_of}
use Rattle.results.specs.Results.{IsResult}
use Rattle.strip_polygons.specs.Ranges.{AreOfBoth, BeginsWithin}
use Rattle.overlay_c.specs.declared.columns_answer.OverlayColumnsAnswer.{OverlayColumnsAnswer}
use Rattle.overlay_c.specs.declared.strip_items.OverlayDirected.{OverlayDirected}
use Rattle.overlay_c.specs.Columns.{AreListsOf, Lists, refused_answer}
use Rattle.overlay_c.specs.Polygons.{ArePolygonColumns}
use Rattle.overlay_c.specs.StripClosed.{AreClosedTold}
use Rattle.overlay_c.specs.StripLabels.{told_directed}
use Rattle.overlay_c.specs.Strips.{AreInPlace, IsFirstBad, two_lists}

-- ---- one call

-- not beyond so many items
abbrev pub IsOffset : ℕ → ℕ → Type 0
IsOffset count offset = offset ≤ count

-- a list between two offsets has an item
abbrev pub IsOffsetBefore : ℕ → ℕ → Type 0
IsOffsetBefore offset next = offset < next

abbrev pub AreOffsetsInPlace : ℕ → List ℕ → Type 0
AreOffsetsInPlace count offsets = AreInPlace (IsOffset count) IsOffsetBefore offsets

abbrev pub IsBadOffset : ℕ → List ℕ → ℕ → Type 0
IsBadOffset count offsets place = IsFirstBad (IsOffset count) IsOffsetBefore offsets place

-- columns as they may be handed in
abbrev pub AreWholeLists : Lists → Type 0
AreWholeLists given = AreWhole given.coordinates given.rings given.polygons

-- the columns of the same polygons, each as often, in the order of their shells
pub record AreWrittenTold (given lists : Lists) : Type 0 where
  pub whole : AreWholeLists given
  pub all : List (List (List Pt))
  pub by_shell : AreByShell (polygons_of given.coordinates given.rings given.polygons) all
  pub points : lists.coordinates ≡ coordinates_of (joined (joined all))
  pub rings : lists.rings ≡ offsets_from 0 (joined all)
  pub polygons : lists.polygons ≡ offsets_from 0 all

-- why there are none: a coordinate is missing; an offset of rings or of polygons doesn't ascend or passes the end; two polygons have one shell; or
-- memory ran out
pub data FailsWrite (given : Lists) : OverlayColumnsAnswer → Type 0 where
  uneven : length given.coordinates % 2 ≢ 0 → FailsWrite given (refused_answer 3 13 0 0)
  bad_ring : length given.coordinates % 2 ≡ 0 → (place : ℕ) → IsBadOffset (length (pairs given.coordinates)) given.rings place
      → FailsWrite given (refused_answer 3 16 0 place)
  bad_polygon : length given.coordinates % 2 ≡ 0 → AreOffsetsInPlace (length (pairs given.coordinates)) given.rings → (place : ℕ)
      → IsBadOffset (length given.rings - 1) given.polygons place → FailsWrite given (refused_answer 3 15 0 place)
  shell_twice : AreWholeLists given → (number : ℕ) → IsShellTwice given.coordinates given.rings given.polygons number
      → FailsWrite given (refused_answer 3 19 0 number)
  no_memory : AreWholeLists given → FailsWrite given (refused_answer 1 10 2 0)

-- ---- all strips

-- Of a range of strips the calls told what is closed and what waits of the edges that it knows, and the polygons of what is closed.
pub record IsRangeAnswered (cuts : List ℤ) (from past : ℕ) (known waiting : List OverlayDirected) (found : List Shape) : Type 0 where
  pub closed : List OverlayDirected
  pub parted : AreClosedTold cuts from past known (two_lists closed waiting)
  pub lists : Lists
  pub columns : ArePolygonColumns closed lists
  pub found_are : found ≡ columns.along.shapes

-- Of a strip they were made with the directed edges that have a column of it; of two ranges that touch with those that come into the first one, and
-- what waits in either. What waits in the end, and all polygons that were told.
pub data AreRangesAnswered (cuts : List ℤ) (directed : List DirectedEdge) : ℕ → ℕ → List OverlayDirected → List Shape → Type 0 where
  one_strip : {strip : ℕ} {known : List DirectedEdge} {waiting : List OverlayDirected} {found : List Shape} → AreKnown cuts strip (strip + 1) directed known
      → IsRangeAnswered cuts strip (strip + 1) (map told_directed known) waiting found → AreRangesAnswered cuts directed strip (strip + 1) waiting found
  two_ranges : {from middle past : ℕ} {coming first second known : List DirectedEdge} {waiting : List OverlayDirected} {found_first found_second found : List Shape}
      → AreRangesAnswered cuts directed from middle (map told_directed first) found_first
      → AreRangesAnswered cuts directed middle past (map told_directed second) found_second
      → AreComing cuts from directed coming → AreOfBoth coming first second known
      → IsRangeAnswered cuts from past (map told_directed known) waiting found
      → AreRangesAnswered cuts directed from past waiting (found_first ++ (found_second ++ found))

-- the call was made with columns of those polygons found that begin in the strip
pub record IsStripWritten (cuts : List ℤ) (found : List Shape) (strip : ℕ) (lists : Lists) : Type 0 where
  pub begin : List Shape
  pub exact : (p : Shape) → Contains begin p ↔ (Contains found p × BeginsWithin cuts strip p)
  pub given : Lists
  pub given_are : AreListsOf begin given
  pub written : AreWrittenTold given lists

-- and so for each strip
pub record AreStripsWritten (cuts : List ℤ) (found : List Shape) (told : List Lists) : Type 0 where
  pub strips : length told ≡ length cuts + 1
  pub each : (strip : ℕ) (d : Lists) → strip < length told → IsStripWritten cuts found strip (get_or told strip d)

-- the columns of some polygons, strip by strip, which are one strip behind another these polygons
pub record AreListsByStrip (polygons : List Shape) (told : List Lists) : Type 0 where
  pub written : List (List Shape)
  pub columns : AllZip AreListsOf written told
  pub together : polygons ≡ flat_map (λ ps. ps) written

-- What is told of all strips is the result that a run on the same rounded layers tells, whatever the cuts and the ranges are.
abbrev pub StripsAreWritten : Type 0
StripsAreWritten = (op : Op) (counted : List Counted) (directed : List DirectedEdge) → AreLayers counted → AreResultEdges op counted directed
    → (cuts : List ℤ) (waiting : List OverlayDirected) (found : List Shape) → AreRangesAnswered cuts directed 0 (length cuts + 1) waiting found
    → (told : List Lists) → AreStripsWritten cuts found told → (polygons : List Shape) → IsResult op counted polygons → AreListsByStrip polygons told
