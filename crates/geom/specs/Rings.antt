-- The rings of directed edges (own), and how a ring is cut at the vertices that it visits twice.
use Rattle.std.specs.Prelude.{◌≡◌, ◌≢◌, ◌⊎◌, pos, ◌<ℤ◌, List, [], ◌∷◌, ◌++◌, All, AllPairs, Contains, flat_map, IsPermutation}
use Rattle.geom.specs.declared.point.Pt.{Pt}
use Rattle.geom.specs.declared.directed.DirectedEdge.{DirectedEdge}
use Rattle.geom.specs.Order.{IsBefore}
use Rattle.geom.specs.Determinant.{side}
use Rattle.geom.specs.Directed.{from_to, AreDirected}
use Rattle.geom.specs.ListOrder.{IsListBefore, IsLeastRotation}

-- ---- turning clockwise round a vertex

-- Turning clockwise round v from straight up, a is met before b: a in the first half turn (right of v or straight above it) and
-- b in the second one, or both in one half turn and b clockwise of a.
abbrev pub IsSooner : Pt → Pt → Pt → Type 0
IsSooner v a b = (IsBefore v a × IsBefore b v) ⊎ (((IsBefore v a × IsBefore v b) ⊎ (IsBefore a v × IsBefore b v)) × (side v a b <ℤ pos 0))

-- Turning clockwise round v from u, a is met before b.
abbrev pub IsMetBefore : Pt → Pt → Pt → Pt → Type 0
IsMetBefore v u a b = (IsSooner v u a × IsSooner v a b) ⊎ (IsSooner v a b × IsSooner v b u) ⊎ (IsSooner v b u × IsSooner v u a)

-- an edge of either direction joins v and w
abbrev pub IsNeighbour : List DirectedEdge → Pt → Pt → Type 0
IsNeighbour directed v w = Contains directed (from_to v w) ⊎ Contains directed (from_to w v)

-- after u to v comes v to w: w is the first neighbour of v met when turning clockwise round v from u
pub record IsNext (directed : List DirectedEdge) (u v w : Pt) : Type 0 where
  pub near : IsNeighbour directed v w
  pub other : w ≢ u
  pub first : (a : Pt) → IsNeighbour directed v a → a ≢ u → a ≢ w → IsMetBefore v u w a

-- The rule closes into cycles: no edge stands in both directions, no two neighbours of a vertex lie in one direction from it,
-- and at the end of each edge the first neighbour met is reached by an edge that leaves.
pub record Closes (directed : List DirectedEdge) : Type 0 where
  pub are_directed : AreDirected directed
  pub spread : (v a b : Pt) → IsNeighbour directed v a → IsNeighbour directed v b → a ≢ b → IsSooner v a b ⊎ IsSooner v b a
  pub turns : (u v : Pt) → Contains directed (from_to u v) → (w : Pt) × Contains directed (from_to v w) × IsNext directed u v w

-- ---- rings

-- f of each neighbouring two along x, the list and z
abbrev pub along : {X Y : Type 0} → (X → X → Y) → X → List X → X → List Y
along f x [] z = f x z ∷ []
along f x (y ∷ ys) z = f x y ∷ along f y ys z

-- f of each neighbouring two round the list, the last with the first
abbrev pub around : {X Y : Type 0} → (X → X → Y) → List X → List Y
around f [] = []
around f (x ∷ xs) = along f x xs x

-- the directed edges of a ring
abbrev pub ring_edges : List Pt → List DirectedEdge
ring_edges = around from_to

-- an edge to a vertex, and the edge that comes after it
pub record Corner : Type 0 where
  pub comes : DirectedEdge
  pub goes : DirectedEdge

abbrev pub corner : DirectedEdge → DirectedEdge → Corner
corner d e = record { comes = d; goes = e }

abbrev pub ring_corners : List Pt → List Corner
ring_corners ring = around corner (ring_edges ring)

abbrev pub Follows : List DirectedEdge → Corner → Type 0
Follows directed c = IsNext directed c.comes.from c.comes.to c.goes.to

-- The rings are the cycles of the rule: each follows it at every corner, and together they have each edge once. Each is
-- read from its least rotation, and they stand in ascending order.
pub record AreRings (directed : List DirectedEdge) (rings : List (List Pt)) : Type 0 where
  pub follow : All (λ ring. All (Follows directed) (ring_corners ring)) rings
  pub together : IsPermutation directed (flat_map ring_edges rings)
  pub least : All (λ ring. IsLeastRotation ring ring) rings
  pub ascending : AllPairs IsListBefore rings

-- ---- pieces

-- no vertex is visited twice
abbrev pub IsSimple : {X : Type 0} → List X → Type 0
IsSimple ring = AllPairs (λ p q. p ≢ q) ring

-- The pieces of a ring: while it visits a vertex twice, the first place whose point v stood at an earlier place ends a piece,
-- which begins at that earlier place and is taken out. What is left at the end is a piece too.
pub data IsCut {X : Type 0} : List X → List (List X) → Type 0 where
  whole : {ring : List X} → IsSimple ring → IsCut ring (ring ∷ [])
  taken : {ring : List X} {pieces : List (List X)} (front : List X) (v : X) (mid back : List X) → ring ≡ (front ++ v ∷ mid) ++ v ∷ back → IsSimple (front ++ v ∷ mid) → IsCut (front ++ v ∷ back) pieces → IsCut ring ((v ∷ mid) ∷ pieces)
