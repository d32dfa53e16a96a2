-- The pieces of a ring that come back to its least vertex.
use Rattle.std.specs.Prelude.{◌≡◌, ℕ, ◌-◌, ◌<◌, ◌≤◌, pos, ◌<ℤ◌, List, [], length, slice_index_or, All, Contains}
use Rattle.geom.specs.declared.point.Pt.{Pt}
use Rattle.geom.specs.declared.directed.DirectedEdge.{DirectedEdge}
use Rattle.geom.specs.Canonical.{IsFirstPiece}
use Rattle.geom.specs.Determinant.{side}
use Rattle.geom.specs.Rings.{ring_edges, Closes, IsCut}
use Rattle.polygonize.specs.Next.{edge_at, ring_of}
use Rattle.polygonize.specs.Number.{IsVertex}

-- where the last edge of a ring starts
abbrev pub last_point : List DirectedEdge → List ℕ → Pt
last_point ds ring = (edge_at ds (slice_index_or ring (length ring - 1) 0)).from

-- the piece comes back to the vertex, and with a greater angle than the other one where that comes back to it too
pub record ComesLater (ds : List DirectedEdge) (least : ℕ) (piece other : List ℕ) : Type 0 where
  pub begins : slice_index_or piece 0 0 ≡ least
  pub greater : slice_index_or other 0 0 ≡ least → pos 0 <ℤ side (edge_at ds least).from (last_point ds other) (last_point ds piece)

-- a ring of the edges, begun at its least number, and its pieces
pub record IsRingCut (ds : List DirectedEdge) (least : ℕ) (ring : List ℕ) (pieces : List (List ℕ)) : Type 0 where
  pub some : 0 < length ring
  pub begins : slice_index_or ring 0 0 ≡ least
  pub vertices : All (IsVertex ds) ring
  pub least_first : All (λ k. slice_index_or ring 0 0 ≤ k) ring
  pub among : (d : DirectedEdge) → Contains (ring_edges (ring_of ds ring)) d → Contains ds d
  pub cut : IsCut ring pieces

-- the piece at the place is the first one of any ring that is cut into these
abbrev pub IsFirstAmong : List DirectedEdge → ℕ → List (List ℕ) → ℕ → Type 0
IsFirstAmong ds least pieces place = (ring : List ℕ) → Closes ds → IsRingCut ds least ring pieces → IsFirstPiece (ring_of ds ring) (ring_of ds (slice_index_or pieces place []))
