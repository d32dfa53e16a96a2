-- Rings as they are written.
use Rattle.std.specs.Prelude.{◌≡◌, ℕ, ◌<◌, ◌≤◌, List, [], ◌∷◌, ◌++◌, length, slice_index_or, All, Contains, IsPermutation, flat_map, map}
use Rattle.geom.specs.declared.directed.DirectedEdge.{DirectedEdge}
use Rattle.geom.specs.declared.point.Pt.{Pt}
use Rattle.geom.specs.Directed.{from_to}
use Rattle.geom.specs.Rings.{ring_edges, IsSimple, IsCut}
use Rattle.polygonize.specs.Cycle.{IsLeastFirst}
use Rattle.polygonize.specs.Next.{edge_at, ring_of}
use Rattle.polygonize.specs.Number.{IsVertex}

-- the ring begun at its least number
pub record IsTurned (ring turned : List ℕ) : Type 0 where
  pub front : List ℕ
  pub back : List ℕ
  pub was : ring ≡ front ++ back
  pub is : turned ≡ back ++ front
  pub least : All (λ k. slice_index_or turned 0 0 ≤ k) turned

abbrev pub AreTurned : List (List ℕ) → List (List ℕ) → Type 0
AreTurned [] [] = Unit {0}
AreTurned [] (w ∷ ws) = ⊥
AreTurned (p ∷ ps) [] = ⊥
AreTurned (p ∷ ps) (w ∷ ws) = IsTurned p w × AreTurned ps ws

-- a ring of vertices that visits none twice
pub record IsSound (ds : List DirectedEdge) (ring : List ℕ) : Type 0 where
  pub long : 3 ≤ length ring
  pub simple : IsSimple ring
  pub vertices : All (IsVertex ds) ring

abbrev pub backward : {X : Type 0} → List X → List X
backward [] = []
backward (x ∷ xs) = backward xs ++ x ∷ []

-- each ring has three points or more, and none twice
abbrev pub AreSimple : List (List Pt) → Type 0
AreSimple rings = All (λ ring. (3 ≤ length ring) × IsSimple ring) rings

-- and begins at its least vertex
pub record IsCanonical (ds : List DirectedEdge) (ring : List ℕ) : Type 0 where
  pub sound : IsSound ds ring
  pub least : All (λ k. slice_index_or ring 0 0 ≤ k) ring

-- the written rings are the old ones and the pieces, the last one first, each begun at its least number
pub record AreAdded (pieces old new : List (List ℕ)) : Type 0 where
  pub turned : List (List ℕ)
  pub each : AreTurned pieces turned
  pub appended : new ≡ old ++ backward turned

-- places of a ring's edges, none of which runs back along another; the least place comes first
pub record ArePlaces (ds : List DirectedEdge) (cycle : List ℕ) : Type 0 where
  pub some : 0 < length cycle
  pub least : IsLeastFirst cycle
  pub inside : All (λ k. k < length ds) cycle
  pub one_way : (u v : Pt) → Contains (ring_edges (ring_of ds cycle)) (from_to u v) → ¬ (Contains (ring_edges (ring_of ds cycle)) (from_to v u))

-- the edges of the ring of a cycle are those at its places
abbrev pub HasItsEdges : List DirectedEdge → List ℕ → Type 0
HasItsEdges ds cycle = ring_edges (ring_of ds cycle) ≡ map (edge_at ds) cycle

-- the ring of the places is cut, and its pieces are written
pub record IsRingWritten (ds : List DirectedEdge) (cycle : List ℕ) (old new : List (List ℕ)) : Type 0 where
  pub ring : List ℕ
  pub same : ring_of ds ring ≡ ring_of ds cycle
  pub vertices : All (IsVertex ds) ring
  pub pieces : List (List ℕ)
  pub cut : IsCut ring pieces
  pub sound : All (IsSound ds) pieces
  pub added : AreAdded pieces old new

-- the rings have each of the edges once
abbrev pub HaveEdges : List DirectedEdge → List (List ℕ) → Type 0
HaveEdges ds rings = IsPermutation ds (flat_map ring_edges (map (ring_of ds) rings))
