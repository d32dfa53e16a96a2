-- A map by strips of columns, from the rings of its parts to the polygons of the whole (own).
use Rattle.std.specs.Prelude.{◌≡◌, ◌↔◌, ◌+◌, ◌++◌, ◌∷◌, [], ℕ, ℤ, All, AllPairs, Contains, List, filter, flat_map, get_or, length, map}
use Rattle.geom.specs.declared.op.Op.{Op}
use Rattle.geom.specs.declared.point.Pt.{Pt}
use Rattle.geom.specs.declared.segment.Seg.{Seg}
use Rattle.geom.specs.declared.segment.Source.{Source}
use Rattle.geom.specs.declared.segment.Source.TheVariants.{A, B}
use Rattle.geom.specs.declared.edge.Counted.{Counted}
use Rattle.geom.specs.declared.directed.DirectedEdge.{DirectedEdge}
use Rattle.geom.specs.Canonical.{Shape}
use Rattle.geom.specs.Directed.{IsDirectedBefore}
use Rattle.geom.specs.Limit.{AreInLimit}
use Rattle.geom.specs.Segments.{layer_steps, parts, tagged}
use Rattle.points_law.specs.Polygons.{AreResultPolygons}
use Rattle.label_sweep.specs.Changing.{changes}
use Rattle.label_sweep.specs.StripLabels.{AreResultEdgesAlong}
use Rattle.strips_law.specs.declared.line.Carried.{Carried}
use Rattle.strips_law.specs.declared.line.Line.{Line}
use Rattle.strips_law.specs.declared.line.Open.{Open}
use Rattle.strips_law.specs.Strips.{AreAcross, AreCarried, AreEdgesOf, AreLinesFrom, AreOrdered, IsRoundedStrip}
use Rattle.phases.specs.Labels.{ComeInto, TellLabels}
use Rattle.phases.specs.Scattered.{AreByStrip}
use Rattle.strip_polygons.specs.Ranges as ranges

-- ---- parts

-- a part of a layer: its rings, their segments, and for each strip the lines that reach it
pub record Part : Type 0 where
  pub rings : List (List Pt)
  pub segments : List Seg
  pub lists : List (List Line)

-- `scatter` was called for it, with the number of its first line
pub record IsScattered (cuts : List ℤ) (layer : Source) (first : ℕ) (p : Part) : Type 0 where
  pub are_segments : map parts p.segments ≡ map (tagged layer) (layer_steps p.rings)
  pub in_limit : All (λ s. AreInLimit s.a s.b) p.segments
  pub lines : List Line
  pub are_lines : AreLinesFrom first p.segments lines
  pub by_strip : AreByStrip cuts lines p.lists

-- and so for the parts of a layer one behind another, numbered on
abbrev pub AreScattered : List ℤ → Source → ℕ → List Part → Type 0
AreScattered cuts layer first [] = Unit {0}
AreScattered cuts layer first (p ∷ ps) = IsScattered cuts layer first p × AreScattered cuts layer (first + length p.segments) ps

-- the rings of a layer whose parts these are
abbrev pub rings_of : List Part → List (List Pt)
rings_of ps = flat_map (λ p. p.rings) ps

abbrev pub segments_of : List Part → List Seg
segments_of ps = flat_map (λ p. p.segments) ps

-- the lines that a strip is handed: those of all parts
abbrev pub lines_for : ℕ → List Part → List Line
lines_for strip ps = flat_map (λ p. get_or p.lists strip []) ps

-- ---- rounded

-- `round`, `bridge` and `edges` were called for a strip, with its lines and what was carried over its right border: what is carried over its left
-- one, and its edges
pub record IsStripRounded (cuts : List ℤ) (strip : ℕ) (lines : List Line) (carried next : List Carried) (edges : List Counted) : Type 0 where
  pub inner : List Counted
  pub left : List Open
  pub right : List Open
  pub rounded : ∥ IsRoundedStrip cuts strip lines inner left right ∥₁
  pub across : List Counted
  pub bridged : (all : List Line) → AreOrdered all → ∥ IsRoundedStrip cuts strip all inner left right ∥₁ → ∥ AreCarried cuts (strip + 1) all carried ∥₁
      → ∥ AreAcross cuts strip all across × AreCarried cuts strip all next ∥₁
  pub merged : (all : List Line) → AreOrdered all → ∥ IsRoundedStrip cuts strip all inner left right ∥₁ → ∥ AreAcross cuts strip all across ∥₁ → ∥ AreEdgesOf cuts strip all edges ∥₁

-- and so for the strips from this one on, the last one first: what is carried over its left border, and the edges of each
pub data AreStripsRounded (cuts : List ℤ) (ps : List Part) : ℕ → List Carried → List (List Counted) → Type 0 where
  none_rounded : AreStripsRounded cuts ps (length cuts + 1) [] []
  one_rounded : {strip : ℕ} {carried next : List Carried} {edges : List Counted} {behind : List (List Counted)} → AreStripsRounded cuts ps (strip + 1) carried behind
      → IsStripRounded cuts strip (lines_for strip ps) carried next edges → AreStripsRounded cuts ps strip next (edges ∷ behind)

-- ---- labelled

-- `labels` and `going_on` were called for the strips from this one on, the first one first, with what comes into it and its own edges: the directed
-- edges along the own ones of each
pub data AreStripsLabelled (op : Op) (cuts : List ℤ) : ℕ → List Counted → List (List Counted) → List (List DirectedEdge) → Type 0 where
  none_labelled : {strip : ℕ} {crossing : List Counted} → AreStripsLabelled op cuts strip crossing [] []
  one_labelled : {strip : ℕ} {crossing own next : List Counted} {along : List DirectedEdge} {owns : List (List Counted)} {alongs : List (List DirectedEdge)}
      → ((counted : List Counted) → TellLabels counted cuts strip crossing own → AreResultEdgesAlong op counted own along)
      → ((counted : List Counted) → TellLabels counted cuts strip crossing own → ComeInto cuts (strip + 1) counted next)
      → AreStripsLabelled op cuts (strip + 1) next owns alongs → AreStripsLabelled op cuts strip crossing (own ∷ owns) (along ∷ alongs)

-- the directed edges of all strips, in order
pub record AreAllDirected (alongs : List (List DirectedEdge)) (directed : List DirectedEdge) : Type 0 where
  pub ascending : AllPairs IsDirectedBefore directed
  pub exact : (d : DirectedEdge) → Contains directed d ↔ Contains (flat_map (λ along. along) alongs) d

-- ---- the whole

-- all steps of an operation on the layers whose parts these are, each with what those before it answered; and the polygons of each strip at last
pub record IsDoneByStrips (op : Op) (cuts : List ℤ) (first second : List Part) (written : List (List Shape)) : Type 0 where
  pub scattered_first : AreScattered cuts A 0 first
  pub scattered_second : AreScattered cuts B (length (segments_of first)) second
  pub carried : List Carried
  pub strips : List (List Counted)
  pub are_rounded : AreStripsRounded cuts (first ++ second) 0 carried strips
  pub alongs : List (List DirectedEdge)
  pub are_labelled : AreStripsLabelled op cuts 0 [] (map (filter changes) strips) alongs
  pub directed : List DirectedEdge
  pub are_directed : AreAllDirected alongs directed
  pub waiting : List DirectedEdge
  pub found : List Shape
  pub are_found : ranges.AreRangesTold cuts directed 0 (length cuts + 1) waiting found
  pub are_written : ranges.AreByStrip cuts found written

-- polygons of the result on the layers with rings a and b, which no others are
pub record AreThoseOfRun (op : Op) (a b : List (List Pt)) (polygons : List Shape) : Type 0 where
  pub result : ∥ AreResultPolygons op a b polygons ∥₁
  pub one : (others : List Shape) → AreResultPolygons op a b others → others ≡ polygons

-- those of all strips, one strip behind another, are the result's on the rings of all parts
abbrev pub WholeIsRun : Type 0
WholeIsRun = (op : Op) (cuts : List ℤ) (first second : List Part) (written : List (List Shape)) → IsDoneByStrips op cuts first second written
    → AreThoseOfRun op (rings_of first) (rings_of second) (flat_map (λ polygons. polygons) written)
