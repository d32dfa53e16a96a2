-- Strips of columns, and what each of them has of the rounded edges (own).
use Rattle.std.specs.Prelude.{◌≡◌, ◌⊎◌, ◌↔◌, ◌<◌, ◌≤◌, ◌+◌, ◌&&◌, ℕ, ℤ, AllPairs, All, Bool, Contains, List, [], ◌∷◌, ◌++◌, None, Some, Option, MatchOption, count_by, filter, if◌then◌else◌, int_le, map, nat_le, nat_lt, slice_get}
use Rattle.std.specs.List.{AllZip, last_or}
use Rattle.geom.specs.declared.point.Pt.{Pt}
use Rattle.geom.specs.declared.segment.Seg.{Seg}
use Rattle.geom.specs.declared.segment.Source.{Source}
use Rattle.geom.specs.declared.segment.Source.TheVariants.{A, B}
use Rattle.geom.specs.declared.edge.Edge.{Edge}
use Rattle.geom.specs.declared.edge.Counted.{Counted}
use Rattle.geom.specs.EdgeOrder.{IsEdgeBefore}
use Rattle.geom.specs.Hot.{IsHot}
use Rattle.geom.specs.Order.{IsBefore}
use Rattle.geom.specs.Rounded.{joins, route_steps}
use Rattle.geom.specs.Route.{IsEarlier, Meets}
use Rattle.geom.specs.Segments.{same_source}
use Rattle.strips_law.specs.declared.line.Line.{Line}
use Rattle.strips_law.specs.declared.line.Open.{Open}
use Rattle.strips_law.specs.declared.line.Carried.{Carried}

-- ---- strips

-- the strip of the column x: how many of the cuts are not past it, so that there is one strip more than cuts
abbrev pub strip_of : List ℤ → ℤ → ℕ
strip_of cuts x = count_by (λ c. int_le c x) cuts

-- the strip of a point
abbrev pub strip_at : List ℤ → Pt → ℕ
strip_at cuts p = strip_of cuts p.x

-- the segment, lesser end first, has a column of the strip
abbrev pub reaches : List ℤ → ℕ → Seg → Bool
reaches cuts strip s = nat_le (strip_at cuts s.a) strip && nat_le strip (strip_at cuts s.b)

-- the segment, lesser end first, crosses the border on the left of the strip: it has a column before the border and one behind it
abbrev pub crosses : List ℤ → ℕ → Seg → Bool
crosses cuts strip s = nat_lt (strip_at cuts s.a) strip && nat_le strip (strip_at cuts s.b)

-- ---- lines

-- t is s or s turned round, with its lesser end first
pub record IsOriented (s t : Seg) : Type 0 where
  pub layer : t.layer ≡ s.layer
  pub ends : ((t.a ≡ s.a) × (t.b ≡ s.b)) ⊎ ((t.a ≡ s.b) × (t.b ≡ s.a))
  pub ordered : IsBefore t.a t.b

-- the line of each segment, in their order, numbered from k on
abbrev pub AreLinesFrom : ℕ → List Seg → List Line → Type 0
AreLinesFrom k [] [] = Unit {0}
AreLinesFrom k [] (l ∷ ls) = ⊥
AreLinesFrom k (s ∷ ss) [] = ⊥
AreLinesFrom k (s ∷ ss) (l ∷ ls) = (l.number ≡ k) × IsOriented s l.segment × AreLinesFrom (k + 1) ss ls

-- lines with their lesser ends first, ascending by their numbers
pub record AreOrdered (lines : List Line) : Type 0 where
  pub oriented : All (λ l. IsBefore l.segment.a l.segment.b) lines
  pub ascending : AllPairs (λ l m. l.number < m.number) lines

-- the lines that reach the strip
abbrev pub lines_in : List ℤ → ℕ → List Line → List Line
lines_in cuts strip lines = filter (λ l. reaches cuts strip l.segment) lines

-- the segments of lines
abbrev pub segments_of : List Line → List Seg
segments_of lines = map (λ l. l.segment) lines

-- ---- routes

-- the part has those hot pixels of the region that s meets, in order along s: what the route of s has there
pub record IsRouteIn (In : Pt → Type 0) (segments : List Seg) (s : Seg) (part : List Pt) : Type 0 where
  pub exact : (c : Pt) → Contains part c ↔ (IsHot segments c × Meets s c × In c)
  pub ordered : AllPairs (IsEarlier s) part

-- for each line what its route has in the region
abbrev pub AreRoutesIn : (Pt → Type 0) → List Line → List (List Pt) → Type 0
AreRoutesIn In lines parts = AllZip (λ l part. IsRouteIn In (segments_of lines) l.segment part) lines parts

-- p lies in the strip
abbrev pub IsInStrip : List ℤ → ℕ → Pt → Type 0
IsInStrip cuts strip p = strip_at cuts p ≡ strip

-- p lies in the strip or in a later one
abbrev pub IsFrom : List ℤ → ℕ → Pt → Type 0
IsFrom cuts strip p = strip ≤ strip_at cuts p

-- the neighbours in parts of the routes of a layer's lines
abbrev pub line_steps : Source → List Line → List (List Pt) → List (Pt × Pt)
line_steps layer lines parts = route_steps layer (segments_of lines) parts

-- each edge that steps join, once and ascending, with how often steps of A and of B do
pub record AreCountsOf (in_a in_b : List (Pt × Pt)) (counted : List Counted) : Type 0 where
  pub ascending : AllPairs (λ c d. IsEdgeBefore c.edge d.edge) counted
  pub exact : (c : Counted) → Contains counted c ↔ ((count_by (joins c.edge) in_a ≡ c.in_a) × (count_by (joins c.edge) in_b ≡ c.in_b)
      × (0 < c.in_a + c.in_b))

-- ---- borders

-- what f gives of each line that crosses the border on the left of the strip, and of its part
abbrev pub at_border : {X : Type 0} → List ℤ → ℕ → (Line → List Pt → X) → List Line → List (List Pt) → List X
at_border cuts strip f [] parts = []
at_border cuts strip f (l ∷ ls) [] = []
at_border cuts strip f (l ∷ ls) (part ∷ parts) = (if crosses cuts strip l.segment then f l part ∷ [] else []) ++ at_border cuts strip f ls parts

-- the line with the first pixel of its part, if there is one
abbrev pub with_first : Line → List Pt → Open
with_first l part = record { number = l.number; layer = l.segment.layer; near = slice_get part 0 }

-- the line with the last pixel of its part, if there is one
abbrev pub with_last : Line → List Pt → Open
with_last l part = record { number = l.number; layer = l.segment.layer; near = last_or None part }

-- the number of the line, and the first pixel of its part, if there is one
abbrev pub first_pixel : Line → List Pt → ℕ × Option Pt
first_pixel l part = (l.number, slice_get part 0)

-- the number of the line, and the pixel that is carried
abbrev pub carried_pixel : Carried → ℕ × Option Pt
carried_pixel c = (c.number, Some c.pixel)

-- ---- a rounded strip

-- of the routes of the lines in the strip: the edges that they make there, with their counts; the lines that cross the border on the left of it,
-- with the first pixels that they have there; and those that cross the border on the right, with the last ones
pub record IsRoundedStrip (cuts : List ℤ) (strip : ℕ) (lines : List Line) (inner : List Counted) (left right : List Open) : Type 0 where
  pub parts : List (List Pt)
  pub are_parts : AreRoutesIn (IsInStrip cuts strip) lines parts
  pub inner_is : AreCountsOf (line_steps A lines parts) (line_steps B lines parts) inner
  pub left_is : left ≡ at_border cuts strip with_first lines parts
  pub right_is : right ≡ at_border cuts (strip + 1) with_last lines parts

-- the lines that cross the border on the left of the strip, with the first pixels that they have behind it: each has one
pub record AreCarried (cuts : List ℤ) (strip : ℕ) (lines : List Line) (carried : List Carried) : Type 0 where
  pub parts : List (List Pt)
  pub are_parts : AreRoutesIn (IsFrom cuts strip) lines parts
  pub carried_is : map carried_pixel carried ≡ at_border cuts strip first_pixel lines parts

-- of the edges that the routes of the lines make from the strip on those that pass, ascending and with their counts
pub record AreEdgesBehind (Passes : Edge → Type 0) (cuts : List ℤ) (strip : ℕ) (lines : List Line) (edges : List Counted) : Type 0 where
  pub parts : List (List Pt)
  pub are_parts : AreRoutesIn (IsFrom cuts strip) lines parts
  pub ascending : AllPairs (λ c d. IsEdgeBefore c.edge d.edge) edges
  pub exact : (c : Counted) → Contains edges c ↔ (Passes c.edge × (count_by (joins c.edge) (line_steps A lines parts) ≡ c.in_a)
      × (count_by (joins c.edge) (line_steps B lines parts) ≡ c.in_b) × (0 < c.in_a + c.in_b))

-- the rounded edges from the strip to a later one
abbrev pub AreAcross : List ℤ → ℕ → List Line → List Counted → Type 0
AreAcross cuts strip lines across = AreEdgesBehind (λ e. (strip_at cuts e.p ≡ strip) × (strip < strip_at cuts e.q)) cuts strip lines across

-- the rounded edges whose lesser end lies in the strip
abbrev pub AreEdgesOf : List ℤ → ℕ → List Line → List Counted → Type 0
AreEdgesOf cuts strip lines edges = AreEdgesBehind (λ e. strip_at cuts e.p ≡ strip) cuts strip lines edges

-- ---- over a border

-- the step from the last pixel before a border, where there is one, to the first one behind it
abbrev pub step_over : Option Pt → Pt → List (Pt × Pt)
step_over None q = []
step_over (Some p) q = (p, q) ∷ []

-- the steps over the border on the right, of a layer's lines
abbrev pub steps_over : Source → List Open → List Carried → List (Pt × Pt)
steps_over layer [] carried = []
steps_over layer (o ∷ os) [] = []
steps_over layer (o ∷ os) (c ∷ cs) = (if same_source o.layer layer then step_over o.near c.pixel else []) ++ steps_over layer os cs

-- what a line that crosses the border on the left carries on: its first pixel in the strip, or else what came over the border on the right
abbrev pub CarriesOn : List Carried → Open → Carried → Type 0
CarriesOn carried o c = (c.number ≡ o.number) × MatchOption o.near (Contains carried c) (λ p. p ≡ c.pixel)
