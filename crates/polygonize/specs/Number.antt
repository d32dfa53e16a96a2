-- Vertices by numbers: that of a vertex is the place of the first edge that leaves it.
use Rattle.std.specs.Prelude.{◌≡◌, ◌≢◌, ℕ, suc, ◌<◌, ◌≤◌, List, length, slice_index}
use Rattle.geom.specs.declared.directed.DirectedEdge.{DirectedEdge}
use Rattle.polygonize.specs.Next.{edge_at}

-- k is the number of the vertex where the edge at i starts
pub record IsNumber (ds : List DirectedEdge) (i k : ℕ) : Type 0 where
  pub low : k ≤ i
  pub same : (edge_at ds k).from ≡ (edge_at ds i).from
  pub before : (m : ℕ) → m < k → (edge_at ds m).from ≢ (edge_at ds i).from

pub record AreNumbers (ds : List DirectedEdge) (numbers : List ℕ) : Type 0 where
  pub same_length : length numbers ≡ length ds
  pub each : (i : ℕ) → i < length ds → IsNumber ds i (slice_index numbers i)

-- k is a vertex's number
pub record IsVertex (ds : List DirectedEdge) (k : ℕ) : Type 0 where
  pub inside : k < length ds
  pub first : (m : ℕ) → m < k → (edge_at ds m).from ≢ (edge_at ds k).from

-- no vertex is left by two edges, so the place of each edge is a vertex's number
abbrev pub LeaveApart : List DirectedEdge → Type 0
LeaveApart ds = (k : ℕ) → k < length ds → IsVertex ds k

-- last is the number for the edge before i, and 0 at the first
pub record IsLastNumber (ds : List DirectedEdge) (i last : ℕ) : Type 0 where
  pub low : last ≤ i
  pub of : (j : ℕ) → i ≡ suc j → IsNumber ds j last
