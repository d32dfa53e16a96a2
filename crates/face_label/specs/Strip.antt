-- The edges of a layer by vertical strips (own).
use Rattle.std.specs.Prelude.{◌≡◌, ◌⊎◌, ◌↔◌, ◌<◌, ◌≤◌, ◌+◌, ◌≤ℤ◌, ◌+ℤ◌, ℕ, ℤ, pos, List, [], All, AllPairs, Contains, Option, Some, None, get_or, length, map, nat_abs, slice_get}
use Rattle.std.specs.Int.{int_div_euclid}
use Rattle.geom.specs.declared.edge.Edge.{Edge}
use Rattle.geom.specs.declared.edge.Counted.{Counted}
use Rattle.geom.specs.declared.rect.Rect.{Rect}
use Rattle.geom.specs.declared.segment.Source.TheVariants.{A, B}
use Rattle.geom.specs.Limit.{AreInLimit, IsWithin, coordinate_limit}
use Rattle.geom.specs.Rounded.{odd_edges}
use Rattle.geom.specs.Box.{greatest_corner, least_corner}
use Rattle.lane_tests.specs.Columns.{Ends, corners}
use Rattle.tiling.specs.Index.{AreIndexed, Item}
use Rattle.tiling.specs.Strips.{IsInStrip, Striped, strip_count}
use Rattle.grid.specs.Tiles.{steps}
use Rattle.geom.specs.Label.{OddLayers}

-- chosen are, in their order, the edges that have a whole x in the strip
pub record AreInStrip (s : Striped) (strip : ℕ) (all chosen : List Edge) : Type 0 where
  pub numbers : List ℕ
  pub ascending : AllPairs (λ i j. i < j) numbers
  pub exact : (number : ℕ) → Contains numbers number ↔ ((e : Edge) × (slice_get all number ≡ Some e) × ((x : ℤ) × (e.p.x ≤ℤ x) × (x ≤ℤ e.q.x) × IsInStrip s strip x))
  pub are : map (λ e. Some e) chosen ≡ map (slice_get all) numbers

-- each strip has its edges
abbrev pub AreStriped : List Edge → Striped → List (List Edge) → Type 0
AreStriped all s found = (strip : ℕ) → strip < length found → AreInStrip s strip all (get_or found strip [])

-- a layer's edges by strips
pub record StripedLayer : Type 0 where
  pub strips : Striped
  pub edges : List (List Edge)

-- each strip of the layer has its edges
pub record IsStriped (all : List Edge) (s : StripedLayer) : Type 0 where
  pub wide : 0 < s.strips.width
  pub count : length s.edges ≡ strip_count s.strips
  pub each : AreStriped all s.strips s.edges

-- the strips reach over the edge
pub record IsSpanned (s : StripedLayer) (e : Edge) : Type 0 where
  pub left : s.strips.low ≤ℤ e.p.x
  pub right : e.q.x ≤ℤ s.strips.high

-- the edges of the strip of e's midpoint
abbrev pub strip_at : StripedLayer → Edge → ℕ
strip_at s e = nat_abs (steps s.strips.low s.strips.width (int_div_euclid (e.p.x +ℤ e.q.x) (pos 2)))

abbrev pub edges_at : StripedLayer → Edge → List Edge
edges_at s e = get_or s.edges (strip_at s e) []

abbrev pub layers_at : StripedLayer → StripedLayer → Edge → OddLayers
layers_at a b e = record { a = edges_at a e; b = edges_at b e }

-- ---- the strips of both layers
-- low and high are the least and the greatest x of the edges
pub record AreColumnsOf (counted : List Counted) (low high : ℤ) : Type 0 where
  pub spans : All (λ c. (low ≤ℤ c.edge.p.x) × (c.edge.q.x ≤ℤ high)) counted
  pub starts : (c : Counted) × Contains counted c × (low ≡ c.edge.p.x)
  pub ends : (c : Counted) × Contains counted c × (high ≡ c.edge.q.x)

-- how many strips of this width reach from low to high
abbrev pub strips_between : ℤ → ℤ → ℕ → ℕ
strips_between low high width = nat_abs (steps low width high) + 1

-- the least width that gives at most 256 strips
pub record IsLeastWidth (low high : ℤ) (width : ℕ) : Type 0 where
  pub some : 0 < width
  pub few : strips_between low high width ≤ 256
  pub least : (w : ℕ) → 0 < w → w < width → 256 < strips_between low high w

-- a layer's odd edges by strips of that width, from the least to the greatest x of the rounded edges
pub record AreLayerStrips (counted : List Counted) (odd : List Edge) (s : StripedLayer) : Type 0 where
  pub columns : AreColumnsOf counted s.strips.low s.strips.high
  pub width : IsLeastWidth s.strips.low s.strips.high s.strips.width
  pub striped : IsStriped odd s

pub record StripedLayers : Type 0 where
  pub a : StripedLayer
  pub b : StripedLayer

-- the odd edges of both layers of rounded edges by strips
pub record AreStripsOf (counted : List Counted) (s : StripedLayers) : Type 0 where
  pub in_limit : All (λ c. AreInLimit c.edge.p c.edge.q) counted
  pub a : AreLayerStrips counted (odd_edges A counted) s.a
  pub b : AreLayerStrips counted (odd_edges B counted) s.b

-- the strips of rounded edges; where there are no edges there are none
abbrev pub IsSetOf : List Counted → Option StripedLayers → Type 0
IsSetOf counted None = counted ≡ []
IsSetOf counted (Some s) = AreStripsOf counted s

-- e is one of the rounded edges that the strips are of
pub record IsAmong (set : Option StripedLayers) (e : Edge) : Type 0 where
  pub counted : List Counted
  pub are : IsSetOf counted set
  pub one : Counted
  pub listed : Contains counted one
  pub is : one.edge ≡ e

-- ---- what the code keeps
-- the boxes of the edges
abbrev pub edge_corners : Edge → Ends
edge_corners e = (least_corner e.p e.q, greatest_corner e.p e.q)

abbrev pub AreBoxesOf : List Edge → List Rect → Type 0
AreBoxesOf edges boxes = map corners boxes ≡ map edge_corners edges

-- the items are those boxes by their left sides
pub record IsIndexOf (edges : List Edge) (items : List Item) : Type 0 where
  pub boxes : List Rect
  pub are_boxes : AreBoxesOf edges boxes
  pub indexed : AreIndexed boxes items

-- low and high are the least and the greatest x of the first edge and of the others, within the limit
pub record AreColumnsFrom (first : Edge) (counted : List Counted) (low high : ℤ) : Type 0 where
  pub order : low ≤ℤ high
  pub low_in : IsWithin coordinate_limit low
  pub high_in : IsWithin coordinate_limit high
  pub spans : All (λ c. (low ≤ℤ c.edge.p.x) × (c.edge.q.x ≤ℤ high)) counted
  pub starts : (low ≡ first.p.x) ⊎ ((c : Counted) × Contains counted c × (low ≡ c.edge.p.x))
  pub ends : (high ≡ first.q.x) ⊎ ((c : Counted) × Contains counted c × (high ≡ c.edge.q.x))
