-- The rings of cycles, cut at the vertices that they visit twice.
use Rattle.std.specs.Prelude.{◌+◌, ◌≡◌, ◌↔◌, ℕ, ◌<◌, ◌≤◌, IsTrue, List, [], All, Contains, length, slice_index_or}
use Rattle.geom.specs.declared.directed.DirectedEdge.{DirectedEdge}
use Rattle.geom.specs.Holes.{IsHole}
use Rattle.geom.specs.Rings.{IsCut}
use Rattle.polygonize.specs.declared.cut_ring.CutRing.{CutRing}
use Rattle.polygonize.specs.Next.{ring_of}
use Rattle.polygonize.specs.Number.{AreNumbers, IsVertex}
use Rattle.polygonize.specs.Piece.{IsFirstAmong}
use Rattle.polygonize.specs.Written.{ArePlaces, IsSound}

-- cycles of directed edges, and the numbers of the vertices where these start
pub record AreCyclesOf (ds : List DirectedEdge) (numbers : List ℕ) (cycles : List (List ℕ)) : Type 0 where
  pub numbered : AreNumbers ds numbers
  pub each : All (ArePlaces ds) cycles

-- the ring of a cycle, begun at its least vertex, and its pieces; the place is that of the first of them
pub record IsCycleCut {M : Type 0} (ds : List DirectedEdge) (cycle : List ℕ) (cut_ring : CutRing M) : Type 0 where
  pub ring : List ℕ
  pub same : ring_of ds ring ≡ ring_of ds cycle
  pub some : 0 < length ring
  pub vertices : All (IsVertex ds) ring
  pub least_first : All (λ k. slice_index_or ring 0 0 ≤ k) ring
  pub cut : IsCut ring cut_ring.pieces.items
  pub sound : All (IsSound ds) cut_ring.pieces.items
  pub hole : IsTrue cut_ring.is_hole ↔ IsHole (ring_of ds ring)
  pub inside : cut_ring.first < length cut_ring.pieces.items
  pub is_first : IsFirstAmong ds (slice_index_or ring 0 0) cut_ring.pieces.items cut_ring.first

-- the cycles from one number to before another one, cut
pub record AreCyclesCut {M : Type 0} (ds : List DirectedEdge) (cycles : List (List ℕ)) (from past : ℕ) (rings : List (CutRing M)) : Type 0 where
  pub reaches : from + length rings ≡ past
  pub each : (k : ℕ) (d : CutRing M) → k < length rings → IsCycleCut ds (slice_index_or cycles (from + k) []) (slice_index_or rings k d)

-- each number is above those before it
abbrev pub Ascend : List ℕ → Type 0
Ascend numbers = (i j : ℕ) → i < j → j < length numbers → slice_index_or numbers i 0 < slice_index_or numbers j 0

-- the numbers of those rings that are holes, in order
pub record AreHoleNumbers {M : Type 0} (rings : List (CutRing M)) (numbers : List ℕ) : Type 0 where
  pub ascend : Ascend numbers
  pub inside : All (λ r. r < length rings) numbers
  pub each : (r : ℕ) (d : CutRing M) → r < length rings → Contains numbers r ↔ IsTrue (slice_index_or rings r d).is_hole
