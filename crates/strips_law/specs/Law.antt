-- Laws of strips (own).
use Rattle.std.specs.Prelude.{◌≡◌, ◌≢◌, ◌⊎◌, ◌↔◌, ◌<◌, ◌+◌, ◌++◌, ℕ, ℤ, AllPairs, Contains, IfSome, List, [], None, Some, flat_map, length, map, slice_get}
use Rattle.std.specs.List.{AllZip}
use Rattle.geom.specs.declared.segment.Seg.{Seg}
use Rattle.geom.specs.declared.segment.Source.TheVariants.{A, B}
use Rattle.geom.specs.declared.edge.Counted.{Counted}
use Rattle.geom.specs.EdgeOrder.{IsEdgeBefore}
use Rattle.geom.specs.Rounded.{AreRounded}
use Rattle.strips_law.specs.declared.line.Line.{Line}
use Rattle.strips_law.specs.declared.line.Open.{Open}
use Rattle.strips_law.specs.declared.line.Carried.{Carried}
use Rattle.strips_law.specs.Strips.{AreAcross, AreCarried, AreCountsOf, AreEdgesOf, AreLinesFrom, AreOrdered, CarriesOn, IsRoundedStrip, lines_in, steps_over}

-- the lines of segments stand in order
abbrev pub LinesAreOrdered : Type 0
LinesAreOrdered = (k : ℕ) (segments : List Seg) (lines : List Line) → AreLinesFrom k segments lines → AreOrdered lines

-- the lines of two lists of segments, numbered on, are those of both lists; and those of them that reach a strip are those of each that do
abbrev pub LinesFollow : Type 0
LinesFollow = (k : ℕ) (first second : List Seg) (ls ms : List Line) → AreLinesFrom k first ls → AreLinesFrom (k + length first) second ms
    → AreLinesFrom k (first ++ second) (ls ++ ms) × ((cuts : List ℤ) (strip : ℕ) → lines_in cuts strip (ls ++ ms) ≡ lines_in cuts strip ls ++ lines_in cuts strip ms)

-- what the lines that reach a strip have there is what all lines have there
abbrev pub StripIsLocal : Type 0
StripIsLocal = (cuts : List ℤ) (strip : ℕ) (lines : List Line) (inner : List Counted) (left right : List Open)
    → AreOrdered lines → IsRoundedStrip cuts strip (lines_in cuts strip lines) inner left right → IsRoundedStrip cuts strip lines inner left right

-- nothing crosses the border behind the last strip
abbrev pub LastStrip : Type 0
LastStrip = (cuts : List ℤ) (lines : List Line) → AreCarried cuts (length cuts + 1) lines []

-- what a strip and those behind it tell of the border between them
pub record IsBridged (cuts : List ℤ) (strip : ℕ) (lines : List Line) (left right : List Open) (carried : List Carried) : Type 0 where
  pub same : map (λ o. o.number) right ≡ map (λ c. c.number) carried
  pub left_ascends : AllPairs (λ o p. o.number < p.number) left
  pub carried_ascends : AllPairs (λ c d. c.number < d.number) carried
  pub apart : AllZip (λ o c. IfSome o.near (λ p. p ≢ c.pixel)) right carried
  pub passing : (o : Open) → Contains left o → o.near ≡ None → (c : Carried) × Contains carried c × (c.number ≡ o.number)
  pub across : (across : List Counted) → AreCountsOf (steps_over A right carried) (steps_over B right carried) across → AreAcross cuts strip lines across
  pub goes_on : (next : List Carried) → AllZip (CarriesOn carried) left next → AreCarried cuts strip lines next

-- the steps over the border on the right of a strip make the edges across it, and what is carried goes on over the border on its left
abbrev pub StripsAreBridged : Type 0
StripsAreBridged = (cuts : List ℤ) (strip : ℕ) (lines : List Line) (inner : List Counted) (left right : List Open) (carried : List Carried)
    → AreOrdered lines → IsRoundedStrip cuts strip lines inner left right → AreCarried cuts (strip + 1) lines carried → IsBridged cuts strip lines left right carried

-- no edge lies in a strip and goes on from it to a later one
abbrev pub NoEdgeIsBoth : Type 0
NoEdgeIsBoth = (cuts : List ℤ) (strip : ℕ) (lines : List Line) (inner across : List Counted) (left right : List Open)
    → IsRoundedStrip cuts strip lines inner left right → AreAcross cuts strip lines across
    → (c d : Counted) → Contains inner c → Contains across d → c.edge ≢ d.edge

-- the edges in a strip and those from it to later ones are those whose lesser end lies in it
abbrev pub EdgesOfStrip : Type 0
EdgesOfStrip = (cuts : List ℤ) (strip : ℕ) (lines : List Line) (inner across edges : List Counted) (left right : List Open) → AreOrdered lines
    → IsRoundedStrip cuts strip lines inner left right → AreAcross cuts strip lines across
    → AllPairs (λ c d. IsEdgeBefore c.edge d.edge) edges → ((c : Counted) → Contains edges c ↔ (Contains inner c ⊎ Contains across c))
    → AreEdgesOf cuts strip lines edges

-- the edges of all strips, one behind another, are the rounded edges of the segments
abbrev pub StripsAreRounded : Type 0
StripsAreRounded = (cuts : List ℤ) (segments : List Seg) (lines : List Line) (strips : List (List Counted)) → AreLinesFrom 0 segments lines
    → length strips ≡ length cuts + 1
    → ((strip : ℕ) (edges : List Counted) → slice_get strips strip ≡ Some edges → AreEdgesOf cuts strip lines edges)
    → AreRounded segments (flat_map (λ edges. edges) strips)
