-- The edge beside each edge of a sweep (own): what lies on the left of the one lies on the right of the other.
use Rattle.std.specs.Prelude.{ℕ, ◌≡◌, ◌⊎◌, Bool, false, List, [], ◌∷◌, Option, None, Some, All, AllPairs, Contains, map}
use Rattle.geom.specs.declared.point.Pt.{Pt}
use Rattle.geom.specs.declared.segment.Source.{Source}
use Rattle.geom.specs.declared.edge.Edge.{Edge}
use Rattle.geom.specs.declared.edge.Counted.{Counted}
use Rattle.geom.specs.Order.{IsBefore, IsUpTo}
use Rattle.geom.specs.Parity.{parity}
use Rattle.geom.specs.ResultEdges.{left_side, right_side}
use Rattle.geom.specs.Rounded.{edges_of, odd_edges}
use Rattle.label_sweep.specs.declared.standing.Spoke.{Spoke}
use Rattle.label_sweep.specs.declared.swept.SweptEdge.{SweptEdge}
use Rattle.label_sweep.specs.Column.{LiesBetween}
use Rattle.points_law.specs.Law.{AreLayers}

-- the parity on the right of an edge, or none where there is no edge
abbrev pub parity_beside : Source → List Counted → Option Edge → Bool
parity_beside layer counted None = false
parity_beside layer counted (Some f) = parity (odd_edges layer counted) (right_side f.p f.q)

-- an edge of the list; what lies on its left lies on the right of the one beside it, in each layer over the same edges
pub record IsBeside (es : List Edge) (s : SweptEdge) : Type 0 where
  pub inside : Contains es s.edge
  pub left : (counted : List Counted) → AreLayers counted → edges_of counted ≡ es → (layer : Source)
      → parity (odd_edges layer counted) (left_side s.edge.p s.edge.q) ≡ parity_beside layer counted s.beside

-- the edge beside it, if there is one, begins at an earlier vertex, or is that of the one before it
abbrev pub IsBehind : List Edge → Option SweptEdge → SweptEdge → Type 0
IsBehind es before s = (f : Edge) → s.beside ≡ Some f → Contains es f × (IsBefore f.p s.edge.p ⊎ ((t : SweptEdge) × (before ≡ Some t) × (t.edge ≡ f)))

-- each of them, of which the first stands behind this one
abbrev pub AreBehind : List Edge → Option SweptEdge → List SweptEdge → Type 0
AreBehind es before [] = Unit {0}
AreBehind es before (s ∷ ss) = IsBehind es before s × AreBehind es (Some s) ss

-- all edges by their first ends, each behind the one that is beside it
pub record AreSwept (es : List Edge) (swept : List SweptEdge) : Type 0 where
  pub each : All (IsBeside es) swept
  pub all : (e : Edge) → Contains es e → Contains (map (λ s. s.edge) swept) e
  pub upward : AllPairs (λ s t. IsUpTo s.edge.p t.edge.p) swept
  pub behind : AreBehind es None swept

-- those that begin at one of these points
pub record AreSweptFrom (es : List Edge) (points : List Pt) (swept : List SweptEdge) : Type 0 where
  pub each : All (IsBeside es) swept
  pub all : (e : Edge) → Contains es e → Contains points e.p → Contains (map (λ s. s.edge) swept) e
  pub only : All (λ s. Contains points s.edge.p) swept
  pub upward : AllPairs (λ s t. IsUpTo s.edge.p t.edge.p) swept
  pub behind : AreBehind es None swept

-- those that begin in a strip of columns
pub record AreSweptBetween (counted : List Counted) (from past : ℕ) (swept : List SweptEdge) : Type 0 where
  pub each : All (IsBeside (edges_of counted)) swept
  pub all : (e : Edge) → Contains (edges_of counted) e → LiesBetween counted from past e.p → Contains (map (λ s. s.edge) swept) e
  pub only : All (λ s. LiesBetween counted from past s.edge.p) swept
  pub upward : AllPairs (λ s t. IsUpTo s.edge.p t.edge.p) swept
  pub behind : AreBehind (edges_of counted) None swept

-- the edges that begin at one vertex, one after another, where this is the one beside the first
abbrev pub besides_from : Option Edge → List Spoke → List SweptEdge
besides_from beside [] = []
besides_from beside (s ∷ ss) = record { edge = s.one.edge; beside = beside } ∷ besides_from (Some s.one.edge) ss
