-- The rings of the text with their places, in no order yet.
use Rattle.std.specs.Prelude.{◌≡◌, ◌↔◌, ℕ, Bool, false, List, All, Contains, map, slice_index}
use Rattle.geom.specs.declared.point.Pt.{Pt}
use Rattle.geom.specs.declared.directed.DirectedEdge.{DirectedEdge}
use Rattle.geom.specs.Canonical.{IsFirstPiece, IsPieceOf}
use Rattle.geom.specs.Holes.{IsOwner}
use Rattle.geom.specs.ListOrder.{IsLeastRotation}
use Rattle.geom.specs.Rings.{AreRings, IsCut}
use Rattle.polygonize.specs.declared.written.Opening.{Opening}
use Rattle.polygonize.specs.declared.written.Place.{Place}
use Rattle.polygonize.specs.Next.{ring_of}
use Rattle.polygonize.specs.Written.{HaveEdges, IsCanonical}

-- the first two numbers of a ring
abbrev pub opening_of : List ℕ → Opening
opening_of ring = record { first = slice_index ring 0; second = slice_index ring 1 }

-- a ring of vertex numbers and its place in the text
pub record PlacedRing : Type 0 where
  pub place : Place
  pub ring : List ℕ

-- the rings without their places
abbrev pub rings_in : List PlacedRing → List (List ℕ)
rings_in written = map (λ w. w.ring) written

-- it stands in the text as a hole
abbrev pub stands_as_hole : PlacedRing → Bool
stands_as_hole w = w.place.is_hole

-- the points of a written ring
abbrev pub points : List DirectedEdge → PlacedRing → List Pt
points ds w = ring_of ds w.ring

-- `first` is the first piece of the shell, as it is written: from its least rotation
pub record IsShellWritten (ds : List DirectedEdge) (shell : List Pt) (first : List ℕ) : Type 0 where
  pub pieces : List (List Pt)
  pub cut : IsCut shell pieces
  pub piece : List Pt
  pub one : Contains pieces piece
  pub is_first : IsFirstPiece shell piece
  pub least : IsLeastRotation piece (ring_of ds first)
  pub canonical : IsCanonical ds first

-- a written ring: a piece of one of the rings, under the first piece of the shell that owns that ring
pub record IsPlaced (ds : List DirectedEdge) (rings : List (List Pt)) (written : PlacedRing) : Type 0 where
  pub shell : List Pt
  pub is_piece : IsPieceOf ds rings shell (points ds written)
  pub first : List ℕ
  pub is_first : IsShellWritten ds shell first
  pub under : written.place.shell ≡ opening_of first
  pub opening : written.place.opening ≡ opening_of written.ring
  pub hole : (written.place.is_hole ≡ false) ↔ (written.ring ≡ first)

-- one of the written rings is the piece, from its least rotation
pub record IsWrittenAmong (ds : List DirectedEdge) (written : List PlacedRing) (piece : List Pt) : Type 0 where
  pub placed : PlacedRing
  pub inside : Contains written placed
  pub least : IsLeastRotation piece (ring_of ds placed.ring)

-- the pieces of all rings that have an owner, each written once, and nothing else
pub record AreWritten (ds : List DirectedEdge) (rings : List (List Pt)) (written : List PlacedRing) : Type 0 where
  pub are_rings : AreRings ds rings
  pub placed : All (IsPlaced ds rings) written
  pub each : (ring shell : List Pt) → IsOwner ds rings ring shell → (pieces : List (List Pt)) → IsCut ring pieces → (piece : List Pt) → Contains pieces piece → IsWrittenAmong ds written piece
  pub canonical : All (λ w. IsCanonical ds w.ring) written
  pub edges : HaveEdges ds (rings_in written)

-- so it is for all rings that the edges have
abbrev pub AreAllWritten : List DirectedEdge → List PlacedRing → Type 0
AreAllWritten ds written = (rings : List (List Pt)) × AreWritten ds rings written
