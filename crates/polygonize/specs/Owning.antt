-- How the pieces of one ring are written, and under which shell.
use Rattle.std.specs.Prelude.{◌≡◌, ◌⊎◌, ◌↔◌, ℕ, ◌<◌, ◌≤◌, Bool, false, List, [], All, Contains, Option, Some, None, length, slice_index_or, is_some, unwrap_or}
use Rattle.geom.specs.declared.directed.DirectedEdge.{DirectedEdge}
use Rattle.geom.specs.declared.edge.Edge.{Edge}
use Rattle.geom.specs.Holes.{IsHole, IsNearestBelow, IsShell, LiesBelow, left_of}
use Rattle.geom.specs.Rings.{IsCut}
use Rattle.polygonize.specs.declared.below.Gap.{Gap}
use Rattle.polygonize.specs.declared.written.Opening.{Opening}
use Rattle.polygonize.specs.Next.{edge_at, ring_of}
use Rattle.polygonize.specs.Number.{IsVertex}
use Rattle.polygonize.specs.Piece.{IsFirstAmong}
use Rattle.polygonize.specs.Placed.{PlacedRing, opening_of}
use Rattle.polygonize.specs.Written.{IsSound, IsTurned}

-- the piece with the number k, as it is written under a shell; it is a shell itself where it is the first piece of a ring that has no owner
pub record IsPieceWritten (shell : Opening) (owned : Bool) (first k : ℕ) (piece : List ℕ) (w : PlacedRing) : Type 0 where
  pub turned : IsTurned piece w.ring
  pub under : w.place.shell ≡ shell
  pub opening : w.place.opening ≡ opening_of w.ring
  pub hole : (w.place.is_hole ≡ false) ↔ ((owned ≡ false) × (k ≡ first))

-- the pieces are written under the shell, and nothing else is new
pub record AreWrittenUnder (shell : Opening) (owned : Bool) (first : ℕ) (pieces : List (List ℕ)) (old new : List PlacedRing) : Type 0 where
  pub kept : (w : PlacedRing) → Contains old w → Contains new w
  pub only : (w : PlacedRing) → Contains new w → Contains old w ⊎ ((k : ℕ) × (k < length pieces) × IsPieceWritten shell owned first k (slice_index_or pieces k []) w)
  pub each : (k : ℕ) → k < length pieces → (w : PlacedRing) × Contains new w × IsPieceWritten shell owned first k (slice_index_or pieces k []) w

-- the pieces of a ring are written, under its owner's shell or else under its first piece
pub record ArePiecesWritten (first : ℕ) (pieces : List (List ℕ)) (owner : Option Opening) (shell : Opening) (old new : List PlacedRing) : Type 0 where
  pub shell_is : shell ≡ unwrap_or owner (opening_of (slice_index_or pieces first []))
  pub all : AreWrittenUnder shell (is_some owner) first pieces old new

-- what is kept for the edge of a gap
abbrev pub kept_for : Option Gap → List (Option Opening) → Option Opening
kept_for None shell_of = None
kept_for (Some g) shell_of = slice_index_or shell_of g.number None

-- the ring is a hole, and the edge at b is the nearest one below the point just left of its first vertex
pub record IsHoleOver (ds : List DirectedEdge) (ring : List ℕ) (b : ℕ) : Type 0 where
  pub is_hole : IsHole (ring_of ds ring)
  pub inside : b < length ds
  pub nearest : IsNearestBelow ds (left_of (edge_at ds (slice_index_or ring 0 0)).from) (edge_at ds b)

-- the ring is a hole, and no edge lies below that point
pub record IsHoleOverNone (ds : List DirectedEdge) (ring : List ℕ) : Type 0 where
  pub is_hole : IsHole (ring_of ds ring)
  pub none : (e : Edge) → ¬ (LiesBelow ds (left_of (edge_at ds (slice_index_or ring 0 0)).from) e)

-- a shell has no owner; that of a hole is kept for the edge below it
abbrev pub IsOwnerFound : List DirectedEdge → List ℕ → List (Option Opening) → Option Opening → Type 0
IsOwnerFound ds ring shell_of owner = (IsShell (ring_of ds ring) × (owner ≡ None)) ⊎ (((b : ℕ) × IsHoleOver ds ring b × (owner ≡ slice_index_or shell_of b None)) ⊎ (IsHoleOverNone ds ring × (owner ≡ None)))

-- the shell is kept at each of the places, and the rest is as it was
pub record KeepsShell (cycle : List ℕ) (shell : Opening) (old new : List (Option Opening)) : Type 0 where
  pub kept : (k : ℕ) → Contains cycle k → slice_index_or new k None ≡ Some shell
  pub rest : (k : ℕ) → ¬ (Contains cycle k) → slice_index_or new k None ≡ slice_index_or old k None

-- the ring of these edges is cut, its pieces are written, and their shell is kept for its edges
pub record IsRingPlaced (ds : List DirectedEdge) (cycle : List ℕ) (shells_old shells_new : List (Option Opening)) (old new : List PlacedRing) : Type 0 where
  pub ring : List ℕ
  pub same : ring_of ds ring ≡ ring_of ds cycle
  pub some : 0 < length ring
  pub vertices : All (IsVertex ds) ring
  pub least_first : All (λ k. slice_index_or ring 0 0 ≤ k) ring
  pub pieces : List (List ℕ)
  pub cut : IsCut ring pieces
  pub sound : All (IsSound ds) pieces
  pub first : ℕ
  pub inside : first < length pieces
  pub is_first : IsFirstAmong ds (slice_index_or ring 0 0) pieces first
  pub owner : Option Opening
  pub found : IsOwnerFound ds ring shells_old owner
  pub shell : Opening
  pub written : ArePiecesWritten first pieces owner shell old new
  pub kept : KeepsShell cycle shell shells_old shells_new
