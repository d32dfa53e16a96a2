-- The labels that a sweep gives (own).
use Rattle.std.specs.Prelude.{false, ◌≡◌, ◌&&◌, ◌++◌, int_lt, ℕ, Bool, List, [], ◌∷◌, Option, None, Some, All, AllPairs, Contains, ◌↔◌, ◌<ℤ◌, if◌then◌else◌, map, not}
use Rattle.std.specs.List.{AllWithin}
use Rattle.geom.specs.declared.edge.Edge.{Edge}
use Rattle.geom.specs.declared.edge.Counted.{Counted}
use Rattle.geom.specs.declared.point.Pt.{Pt}
use Rattle.geom.specs.declared.segment.Source.TheVariants.{A, B}
use Rattle.geom.specs.declared.op.Op.{Op}
use Rattle.geom.specs.declared.directed.DirectedEdge.{DirectedEdge}
use Rattle.geom.specs.Operations.{holds}
use Rattle.geom.specs.Parity.{parity}
use Rattle.geom.specs.Pixel.{Point}
use Rattle.geom.specs.ResultEdges.{left_side, right_side}
use Rattle.geom.specs.Rounded.{edges_of, odd_edges, is_odd}
use Rattle.geom.specs.Label.{ways}
use Rattle.label_sweep.specs.declared.parities.Parities.{Parities}
use Rattle.label_sweep.specs.declared.standing.StandingEdge.{StandingEdge}
use Rattle.label_sweep.specs.declared.standing.LabelledEdge.{LabelledEdge}
use Rattle.label_sweep.specs.declared.status.Status.{Status}
use Rattle.label_sweep.specs.Slots.{IsKept, all_standing}
use Rattle.label_sweep.specs.Status.{AreStanding, AreSpokes, GoesOn, IsRangeAt, IsVertexOf, Reaches}
use Rattle.points_law.specs.Law.{AreLayers}
use Rattle.label_sweep.specs.declared.standing.Spoke.{Spoke}

abbrev pub xor : Bool → Bool → Bool
xor a b = if a then not b else b

-- the parities of z in the two layers
abbrev pub parities_at : List Counted → Point → Parities
parities_at counted z = record { a = parity (odd_edges A counted) z; b = parity (odd_edges B counted) z }

-- the parities beyond an edge
abbrev pub beyond : Parities → Counted → Parities
beyond at one = record { a = xor at.a (is_odd one.in_a); b = xor at.b (is_odd one.in_b) }

-- an edge of the list, with the parities at its side points
pub record IsLabelled (counted : List Counted) (l : LabelledEdge) : Type 0 where
  pub inside : Contains (edges_of counted) l.edge
  pub left : l.left ≡ parities_at counted (left_side l.edge.p l.edge.q)
  pub right : l.right ≡ parities_at counted (right_side l.edge.p l.edge.q)

-- edges with the parities at their side points, which are of `own`, those before a number among them
pub record AreLabelsUpTo (counted own : List Counted) (to : ℕ) (labelled : List LabelledEdge) : Type 0 where
  pub each : All (IsLabelled counted) labelled
  pub only : All (λ l. Contains (edges_of own) l.edge) labelled
  pub all : AllWithin (λ c. Contains (map (λ l. l.edge) labelled) c.edge) own 0 to

-- the edges of `own` with the parities at their side points
pub record AreLabels (counted own : List Counted) (labelled : List LabelledEdge) : Type 0 where
  pub each : All (IsLabelled counted) labelled
  pub exact : (e : Edge) → Contains (map (λ l. l.edge) labelled) e ↔ Contains (edges_of own) e

-- before the vertex v: what stands reaches v, in its order, each edge once, with the parities below it
pub record IsSweptUpTo (counted : List Counted) (v : Pt) (standing : List StandingEdge) : Type 0 where
  pub edges : AreStanding (Reaches (edges_of counted) v) (map (λ s. s.spoke.one.edge) standing)
  pub once : AllPairs (λ s t. ¬ (s.spoke.one.edge ≡ t.spoke.one.edge)) standing
  pub inside : All (λ s. Contains counted s.spoke.one) standing
  pub under : All (λ s. s.under ≡ parities_at counted (right_side s.spoke.one.edge.p s.spoke.one.edge.q)) standing

-- at the vertex v of layers: some of the edges `own` are those that begin there, and what stands reaches it
pub record IsAt (counted own : List Counted) (v : Pt) (from next : ℕ) (standing : List StandingEdge) : Type 0 where
  pub layers : AreLayers counted
  pub vertex : IsVertexOf (edges_of counted) v
  pub begin : IsRangeAt counted own v from next
  pub swept : IsSweptUpTo counted v standing

-- it is there, and what stands is kept in slots
pub record IsSweepAt {A : Type 0} (counted own : List Counted) (v : Pt) (from next : ℕ) (status : Status A) : Type 0 where
  pub at : IsAt counted own v from next (all_standing status)
  pub kept : IsKept status

-- after the vertex v: what stands goes on from v, in its order, each edge once, with the parities below it
pub record IsSweptTo (counted : List Counted) (v : Pt) (standing : List StandingEdge) : Type 0 where
  pub edges : AreStanding (GoesOn (edges_of counted) v) (map (λ s. s.spoke.one.edge) standing)
  pub once : AllPairs (λ s t. ¬ (s.spoke.one.edge ≡ t.spoke.one.edge)) standing
  pub inside : All (λ s. Contains counted s.spoke.one) standing
  pub under : All (λ s. s.under ≡ parities_at counted (right_side s.spoke.one.edge.p s.spoke.one.edge.q)) standing

-- the labels of the edges that begin at one vertex, one after another, where these are the parities on the left of the first
abbrev pub labels_from : Parities → List Spoke → List LabelledEdge
labels_from at [] = []
labels_from at (s ∷ ss) = record { edge = s.one.edge; left = at; right = beyond at s.one } ∷ labels_from (beyond at s.one) ss

-- these are the parities on the left of the first edge
abbrev pub BeginsWith : List Counted → Parities → List Edge → Type 0
BeginsWith counted at [] = Unit {0}
BeginsWith counted at (k ∷ rest) = at ≡ parities_at counted (left_side k.p k.q)

-- from a turn's first edge on the labels are right
abbrev pub TurnIsLabelled : Type 0
TurnIsLabelled = (counted : List Counted) → AreLayers counted → (v : Pt) (spokes : List Spoke) → AreSpokes (edges_of counted) v (map (λ s. s.one.edge) spokes)
    → All (λ s. Contains counted s.one) spokes → (at : Parities) → BeginsWith counted at (map (λ s. s.one.edge) spokes) → All (IsLabelled counted) (labels_from at spokes)

-- whether the operation holds of these parities
abbrev pub holds_of : Op → Parities → Bool
holds_of op at = holds op at.a at.b

-- whether the edge bounds the result from p to q, and whether from q to p
abbrev pub directions_of : Op → LabelledEdge → Bool × Bool
directions_of op l = (holds_of op l.left && not (holds_of op l.right), holds_of op l.right && not (holds_of op l.left))

-- the directed edges along all of them
abbrev pub directed_of : Op → List LabelledEdge → List DirectedEdge
directed_of op [] = []
directed_of op (l ∷ ls) = ways l.edge (directions_of op l) ++ directed_of op ls

-- the lowest of these
abbrev pub lowest_of : List StandingEdge → Option StandingEdge
lowest_of [] = None
lowest_of (s ∷ ss) = Some s

-- the parities below it, or none
abbrev pub parities_beside : Option StandingEdge → Parities
parities_beside None = record { a = false; b = false }
parities_beside (Some s) = s.under

-- the edge itself
abbrev pub edge_beside : Option StandingEdge → Option Edge
edge_beside None = None
edge_beside (Some s) = Some s.spoke.one.edge

abbrev pub standing_of : Spoke → Parities → StandingEdge
standing_of s under = record { spoke = s; under = under }

-- what stands of them, from the steepest to the lowest
abbrev pub stands_from : Parities → List Spoke → List StandingEdge
stands_from at [] = []
stands_from at (s ∷ ss) = (if int_lt s.one.edge.p.x s.one.edge.q.x then standing_of s (beyond at s.one) ∷ [] else []) ++ stands_from (beyond at s.one) ss

-- the labels of an edge that stands
abbrev pub labelled_of : StandingEdge → LabelledEdge
labelled_of s = record { edge = s.spoke.one.edge; left = beyond s.under s.spoke.one; right = s.under }

-- the edges that end at v and are not upright, with the parities below them
pub record AreEnded (counted : List Counted) (v : Pt) (ended : List StandingEdge) : Type 0 where
  pub exact : (e : Edge) → Contains (map (λ s. s.spoke.one.edge) ended) e ↔ (Contains (edges_of counted) e × (e.p.x <ℤ e.q.x) × (e.q ≡ v))
  pub inside : All (λ s. Contains counted s.spoke.one) ended
  pub under : All (λ s. s.under ≡ parities_at counted (right_side s.spoke.one.edge.p s.spoke.one.edge.q)) ended
