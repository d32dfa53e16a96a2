-- The laws of the sweep: for layers and one vertex v, where low, mid and high are the edges that reach v from below, at and above it.
use Rattle.std.specs.Prelude.{◌≡◌, ◌<ℤ◌, pos, false, int_le, int_lt, Contains, List, [], ◌∷◌, ◌++◌, All, AllPairs}
use Rattle.std.specs.List.Sorted.{IsPartitionedBy}
use Rattle.label_sweep.specs.declared.standing.StandingEdge.{StandingEdge}
use Rattle.geom.specs.declared.point.Pt.{Pt}
use Rattle.geom.specs.declared.edge.Edge.{Edge}
use Rattle.geom.specs.declared.edge.Counted.{Counted}
use Rattle.geom.specs.declared.segment.Source.{Source}
use Rattle.geom.specs.Determinant.{side}
use Rattle.geom.specs.Order.{IsBefore}
use Rattle.geom.specs.Parity.{parity}
use Rattle.geom.specs.ResultEdges.{left_side, right_side}
use Rattle.geom.specs.Rounded.{edges_of, odd_edges}
use Rattle.points_law.specs.Law.{AreLayers}
use Rattle.label_sweep.specs.Status.{Reaches, GoesOn, AreStanding, AreFresh, AreSpokes, IsVertexOf, IsUnder}
use Rattle.label_sweep.specs.Labels.{beyond, parities_at}

-- what begins at v put in the place of what ends there: just the edges that go on, in their order
abbrev pub StandingStays : Type 0
StandingStays = (counted : List Counted) → AreLayers counted → (v : Pt) → IsVertexOf (edges_of counted) v → (low mid high fresh : List Edge)
    → AreStanding (Reaches (edges_of counted) v) (low ++ (mid ++ high))
    → All (λ e. pos 0 <ℤ side e.p e.q v) low → All (λ e. side e.p e.q v ≡ pos 0) mid → All (λ e. side e.p e.q v <ℤ pos 0) high
    → AreFresh (edges_of counted) v fresh → AreStanding (GoesOn (edges_of counted) v) (low ++ (fresh ++ high))

-- the first edge that begins at v has on its left the parity on the right of the lowest edge above v
abbrev pub LeftOfFirst : Type 0
LeftOfFirst = (counted : List Counted) → AreLayers counted → (v : Pt) → IsVertexOf (edges_of counted) v → (low mid : List Edge) (f : Edge) (high : List Edge)
    → AreStanding (Reaches (edges_of counted) v) (low ++ (mid ++ (f ∷ high)))
    → All (λ e. pos 0 <ℤ side e.p e.q v) low → All (λ e. side e.p e.q v ≡ pos 0) mid → All (λ e. side e.p e.q v <ℤ pos 0) (f ∷ high)
    → (k : Edge) (rest : List Edge) → AreSpokes (edges_of counted) v (k ∷ rest)
    → (layer : Source) → parity (odd_edges layer counted) (left_side k.p k.q) ≡ parity (odd_edges layer counted) (right_side f.p f.q)

-- or no parity, where no edge is above v
abbrev pub FirstLeft : Type 0
FirstLeft = (counted : List Counted) → AreLayers counted → (v : Pt) → IsVertexOf (edges_of counted) v → (low mid : List Edge)
    → AreStanding (Reaches (edges_of counted) v) (low ++ (mid ++ []))
    → All (λ e. pos 0 <ℤ side e.p e.q v) low → All (λ e. side e.p e.q v ≡ pos 0) mid
    → (k : Edge) (rest : List Edge) → AreSpokes (edges_of counted) v (k ∷ rest)
    → (layer : Source) → parity (odd_edges layer counted) (left_side k.p k.q) ≡ false

-- and each further one that on the right of the one before
abbrev pub LeftOfNext : Type 0
LeftOfNext = (counted : List Counted) → AreLayers counted → (v : Pt) → (before : List Edge) (g k : Edge) (rest : List Edge) → AreSpokes (edges_of counted) v (before ++ (g ∷ (k ∷ rest)))
    → (layer : Source) → parity (odd_edges layer counted) (left_side k.p k.q) ≡ parity (odd_edges layer counted) (right_side g.p g.q)

-- the edges that stand, where they reach v: those below v come first, then those that end there, then those above
abbrev pub SearchIsMonotone : Type 0
SearchIsMonotone = (edges : List Edge) (v : Pt) (standing : List StandingEdge) → AllPairs (λ s t. IsUnder s.spoke.one.edge t.spoke.one.edge) standing → All (λ s. Reaches edges v s.spoke.one.edge) standing
    → IsPartitionedBy (λ s. int_lt (pos 0) (side s.spoke.one.edge.p s.spoke.one.edge.q v)) standing × IsPartitionedBy (λ s. int_le (pos 0) (side s.spoke.one.edge.p s.spoke.one.edge.q v)) standing

-- of the edges that reach v just those that are neither below nor above it end there
abbrev pub EndsAreLevel : Type 0
EndsAreLevel = (counted : List Counted) → AreLayers counted → (v : Pt) → IsVertexOf (edges_of counted) v → (e : Edge) → Reaches (edges_of counted) v e → side e.p e.q v ≡ pos 0 → e.q ≡ v

-- what goes on from v reaches the next vertex w, if nothing begins or ends between
abbrev pub StandingReaches : Type 0
StandingReaches = (edges : List Edge) (v w : Pt) → IsBefore v w → ((u : Pt) → IsVertexOf edges u → IsBefore v u → IsBefore u w → ⊥)
    → (standing : List Edge) → AreStanding (GoesOn edges v) standing → AreStanding (Reaches edges w) standing

-- the parities on the right of an edge are those beyond it from its left
abbrev pub RightIsBeyond : Type 0
RightIsBeyond = (counted : List Counted) → AreLayers counted → (c : Counted) → Contains counted c
    → parities_at counted (right_side c.edge.p c.edge.q) ≡ beyond (parities_at counted (left_side c.edge.p c.edge.q)) c

-- the highest edge that ends at v has on its left the parities on the left of the first edge that begins there
abbrev pub LeftOfEnd : Type 0
LeftOfEnd = (counted : List Counted) → AreLayers counted → (v : Pt) (e : Edge) → Contains (edges_of counted) e → e.p.x <ℤ e.q.x → e.q ≡ v
    → ((f : Edge) → Contains (edges_of counted) f → f.p.x <ℤ f.q.x → f.q ≡ v → IsUnder f e)
    → (k : Edge) (rest : List Edge) → AreSpokes (edges_of counted) v (k ∷ rest)
    → parities_at counted (left_side k.p k.q) ≡ parities_at counted (left_side e.p e.q)

-- an upright edge begins at the vertex before its end
abbrev pub UprightIsNext : Type 0
UprightIsNext = (counted : List Counted) → AreLayers counted → (v w : Pt) → IsVertexOf (edges_of counted) v → IsBefore v w
    → ((u : Pt) → IsVertexOf (edges_of counted) u → IsBefore v u → IsBefore u w → ⊥)
    → (e : Edge) → Contains (edges_of counted) e → e.p.x ≡ e.q.x → e.q ≡ w → e.p ≡ v
