-- For each directed edge of a list the place of the next one.
use Rattle.std.specs.Prelude.{◌≡◌, ℕ, ◌<◌, pos, List, [], length, map, slice_index, slice_index_or, All}
use Rattle.geom.specs.declared.point.Pt.{Pt}
use Rattle.geom.specs.declared.directed.DirectedEdge.{DirectedEdge}
use Rattle.geom.specs.Rings.{IsNext}

abbrev pub nothing : DirectedEdge
nothing = record { from = record { x = pos 0; y = pos 0 }; to = record { x = pos 0; y = pos 0 } }

abbrev pub edge_at : List DirectedEdge → ℕ → DirectedEdge
edge_at ds i = slice_index_or ds i nothing

pub record AreNext (ds : List DirectedEdge) (next : List ℕ) : Type 0 where
  pub same_length : length next ≡ length ds
  pub inside : All (λ k. k < length next) next
  pub joins : (i : ℕ) → i < length ds → (edge_at ds (slice_index next i)).from ≡ (edge_at ds i).to
  pub follows : (i : ℕ) → i < length ds → IsNext ds (edge_at ds i).from (edge_at ds i).to (edge_at ds (slice_index next i)).to

-- the rings of cycles of places
abbrev pub ring_of : List DirectedEdge → List ℕ → List Pt
ring_of ds cycle = map (λ i. (edge_at ds i).from) cycle

abbrev pub rings_of : List DirectedEdge → List (List ℕ) → List (List Pt)
rings_of ds cycles = map (ring_of ds) cycles

-- where the cycle with a number begins
abbrev pub first_vertex : List DirectedEdge → List (List ℕ) → ℕ → Pt
first_vertex ds cycles r = (edge_at ds (slice_index_or (slice_index_or cycles r []) 0 0)).from
