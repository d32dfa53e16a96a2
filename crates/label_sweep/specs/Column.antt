-- The edges that cross a column, and strips of columns (own).
use Rattle.std.specs.Prelude.{◌≡◌, ◌<ℤ◌, ◌≤ℤ◌, ◌<◌, ◌≤◌, ◌↔◌, ℕ, ℤ, List, All, AllPairs, Contains, get_or, length}
use Rattle.std.specs.List.{AllWithin}
use Rattle.geom.specs.declared.point.Pt.{Pt}
use Rattle.geom.specs.declared.edge.Edge.{Edge}
use Rattle.geom.specs.declared.edge.Counted.{Counted}
use Rattle.geom.specs.EdgeOrder.{IsEdgeBefore}
use Rattle.geom.specs.Order.{IsBefore}
use Rattle.geom.specs.Rounded.{edges_of}
use Rattle.hands.specs.declared.part.Part.{Part}
use Rattle.points_law.specs.Law.{AreLayers}
use Rattle.label_sweep.specs.Status.{IsUnder, IsVertexOf}

-- e crosses the column on the left of x: it begins on the left of x, and doesn't end there
pub record Crosses (es : List Edge) (x : ℤ) (e : Edge) : Type 0 where
  pub inside : Contains es e
  pub begun : e.p.x <ℤ x
  pub lasts : x ≤ℤ e.q.x

-- just the edges that cross it, each once, from high to low
pub record AreCrossing (es : List Edge) (x : ℤ) (crossing : List Edge) : Type 0 where
  pub exact : (e : Edge) → Contains crossing e ↔ Crosses es x e
  pub order : AllPairs (λ e f. IsUnder f e) crossing
  pub distinct : AllPairs (λ e f. ¬ (e ≡ f)) crossing

-- all vertices before v lie on the left of it
abbrev pub BeginsColumn : List Edge → Pt → Type 0
BeginsColumn es v = (u : Pt) → IsVertexOf es u → IsBefore u v → u.x <ℤ v.x

-- v lies in the column where the edge with a number begins, or on its right
abbrev pub IsFromEdge : List Counted → ℕ → Pt → Type 0
IsFromEdge counted n v = (n < length counted) × ((c : Counted) → (get_or counted n c).edge.p.x ≤ℤ v.x)

-- v lies in the columns from that of one edge to before that of another one, or in all from there on, where there is no other one
pub record LiesBetween (counted : List Counted) (from past : ℕ) (v : Pt) : Type 0 where
  pub from_edge : IsFromEdge counted from v
  pub to_edge : (c : Counted) → past < length counted → v.x <ℤ (get_or counted past c).edge.p.x

-- the edges before the one with a number begin on the left of its column
abbrev pub OpensColumn : List Counted → ℕ → Type 0
OpensColumn counted n = (c : Counted) → n < length counted → AllWithin (λ d. d.edge.p.x <ℤ (get_or counted n c).edge.p.x) counted 0 n

-- some edges after one another, the first of which opens a column, as does the one behind them
pub record IsStrip (counted : List Counted) (strip : Part) : Type 0 where
  pub order : strip.from ≤ strip.past
  pub within : strip.past ≤ length counted
  pub column : OpensColumn counted strip.from
  pub next_column : OpensColumn counted strip.past

-- the vertices in a strip's columns, ascending
pub record AreVerticesBetween (counted : List Counted) (from past : ℕ) (vertices : List Pt) : Type 0 where
  pub ascending : AllPairs IsBefore vertices
  pub exact : (v : Pt) → Contains vertices v ↔ (IsVertexOf (edges_of counted) v × LiesBetween counted from past v)

-- some edges of the list, ascending, with all that cross the column on the left of x
pub record HaveCrossing (counted : List Counted) (x : ℤ) (some : List Counted) : Type 0 where
  pub ascending : AllPairs (λ c d. IsEdgeBefore c.edge d.edge) some
  pub inside : All (Contains counted) some
  pub all : (c : Counted) → Contains counted c → c.edge.p.x <ℤ x → x ≤ℤ c.edge.q.x → Contains some c

-- v begins a column of layers, and `before` has all edges that cross the column on its left
pub record BeginsStrip (counted before : List Counted) (v : Pt) : Type 0 where
  pub layers : AreLayers counted
  pub vertex : IsVertexOf (edges_of counted) v
  pub column : BeginsColumn (edges_of counted) v
  pub crossing : HaveCrossing counted v.x before

-- A strip of layers: vertices with none between, of which the first begins a column, the edges `own` that begin at them, and `before` with
-- those that cross the column on their left.
pub record IsStripOf (counted before own : List Counted) (vertices : List Pt) : Type 0 where
  pub layers : AreLayers counted
  pub ascending : AllPairs IsBefore vertices
  pub only : All (IsVertexOf (edges_of counted)) vertices
  pub gapless : (u v w : Pt) → Contains vertices u → IsVertexOf (edges_of counted) v → Contains vertices w → IsBefore u v → IsBefore v w → Contains vertices v
  pub first : (u : Pt) → 0 < length vertices → BeginsStrip counted before (get_or vertices 0 u)
  pub own_ascends : AllPairs (λ c d. IsEdgeBefore c.edge d.edge) own
  pub own_is : (c : Counted) → Contains own c ↔ (Contains counted c × Contains vertices c.edge.p)
