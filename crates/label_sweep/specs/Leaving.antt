-- The directed edges of a result that leave vertices (own).
use Rattle.std.specs.Prelude.{ℕ, ◌≡◌, ◌⊎◌, ◌↔◌, ◌<◌, ◌&&◌, ◌++◌, List, [], ◌∷◌, All, AllPairs, Contains, if◌then◌else◌, length, map}
use Rattle.geom.specs.declared.op.Op.{Op}
use Rattle.geom.specs.declared.point.Pt.{Pt}
use Rattle.geom.specs.declared.edge.Edge.{Edge}
use Rattle.geom.specs.declared.edge.Counted.{Counted}
use Rattle.geom.specs.declared.directed.DirectedEdge.{DirectedEdge}
use Rattle.geom.specs.Directed.{IsDirectedBefore, IsResultEdge, from_to}
use Rattle.geom.specs.Order.{IsBefore}
use Rattle.geom.specs.Rounded.{edges_of}
use Rattle.geom.specs.Segments.{same_point}
use Rattle.label_sweep.specs.declared.leaving.Seated.{Seated}
use Rattle.label_sweep.specs.declared.standing.LabelledEdge.{LabelledEdge}
use Rattle.label_sweep.specs.declared.status.Status.{Status}
use Rattle.label_sweep.specs.Column.{LiesBetween}
use Rattle.label_sweep.specs.Labels.{IsLabelled, IsSweepAt, IsSweptTo, directions_of}
use Rattle.label_sweep.specs.Slots.{HaveEnded, IsKept, all_standing, in_slot}

-- the directed edges of the result that leave one of these points, ascending
pub record AreLeaving (op : Op) (counted : List Counted) (points : List Pt) (directed : List DirectedEdge) : Type 0 where
  pub ascending : AllPairs IsDirectedBefore directed
  pub exact : (d : DirectedEdge) → Contains directed d ↔ (IsResultEdge op counted d × Contains points d.from)

-- those that leave points in a strip of columns, ascending
pub record AreLeavingBetween (op : Op) (counted : List Counted) (from past : ℕ) (directed : List DirectedEdge) : Type 0 where
  pub ascending : AllPairs IsDirectedBefore directed
  pub exact : (d : DirectedEdge) → Contains directed d ↔ (IsResultEdge op counted d × LiesBetween counted from past d.from)

-- labelled edges, those that have v as an end among them
pub record AreAround (counted : List Counted) (v : Pt) (around : List LabelledEdge) : Type 0 where
  pub each : All (IsLabelled counted) around
  pub all : (e : Edge) → Contains (edges_of counted) e → (e.p ≡ v) ⊎ (e.q ≡ v) → Contains (map (λ l. l.edge) around) e

-- the directed edges along a labelled edge that bound the result and leave v
abbrev pub leaving_of : Op → Pt → LabelledEdge → List DirectedEdge
leaving_of op v l = (if (directions_of op l).0 && same_point l.edge.p v then from_to l.edge.p l.edge.q ∷ [] else [])
    ++ (if (directions_of op l).1 && same_point l.edge.q v then from_to l.edge.q l.edge.p ∷ [] else [])

-- labelled edges, among which are the upright ones that begin at v
pub record HaveUpright (counted : List Counted) (v : Pt) (labelled : List LabelledEdge) : Type 0 where
  pub each : All (IsLabelled counted) labelled
  pub all : (e : Edge) → Contains (edges_of counted) e → e.p.x ≡ e.q.x → e.p ≡ v → Contains (map (λ l. l.edge) labelled) e

-- among which are those that end at v
pub record HaveUprightTo (counted : List Counted) (v : Pt) (labelled : List LabelledEdge) : Type 0 where
  pub each : All (IsLabelled counted) labelled
  pub all : (e : Edge) → Contains (edges_of counted) e → e.p.x ≡ e.q.x → e.q ≡ v → Contains (map (λ l. l.edge) labelled) e

-- an edge in a slot that ends at v
pub record IsSeatedTo {A : Type 0} (status : Status A) (v : Pt) (s : Seated) : Type 0 where
  pub inside : s.number < length status.slots.items
  pub there : in_slot status.slots.items s.number ≡ s.one
  pub ends : s.one.spoke.one.edge.q ≡ v

-- before the vertex v of layers: the sweep is there, the edges that free slots had have ended before v, and the upright edges that end at v are labelled
pub record IsReadyAt {A : Type 0} (counted own : List Counted) (v : Pt) (from next : ℕ) (status : Status A) (began : List LabelledEdge) : Type 0 where
  pub at : IsSweepAt counted own v from next status
  pub free : All (λ i. IsBefore (in_slot status.slots.items i).spoke.one.edge.q v) status.free.items
  pub upright : HaveUprightTo counted v began

-- after it
pub record IsPast {A : Type 0} (counted : List Counted) (v : Pt) (status : Status A) (began : List LabelledEdge) : Type 0 where
  pub swept : IsSweptTo counted v (all_standing status)
  pub kept : IsKept status
  pub free : HaveEnded v status
  pub upright : HaveUpright counted v began
