-- The order of the edges that a sweep keeps (own).
use Rattle.std.specs.Prelude.{ℕ, Bool, int_lt, ◌≤◌, length, slice_range, pos, ◌<ℤ◌, ◌≤ℤ◌, ◌+ℤ◌, ◌-ℤ◌, ◌*ℤ◌, ◌↔◌, ◌≡◌, ◌⊎◌, ℤ, List, AllPairs, Contains}
use Rattle.geom.specs.declared.point.Pt.{Pt}
use Rattle.geom.specs.Order.{IsBefore, IsUpTo}
use Rattle.geom.specs.Determinant.{turn}
use Rattle.geom.specs.EdgeOrder.{IsEdgeBefore}
use Rattle.geom.specs.declared.edge.Edge.{Edge}
use Rattle.geom.specs.declared.edge.Counted.{Counted}

-- how far f is above e at x, times the runs of both
abbrev pub rise_over : Edge → Edge → ℤ → ℤ
rise_over f e x =
    ((e.q.x -ℤ e.p.x) *ℤ ((f.p.y *ℤ (f.q.x -ℤ f.p.x)) +ℤ ((x -ℤ f.p.x) *ℤ (f.q.y -ℤ f.p.y))))
    -ℤ ((f.q.x -ℤ f.p.x) *ℤ ((e.p.y *ℤ (e.q.x -ℤ e.p.x)) +ℤ ((x -ℤ e.p.x) *ℤ (e.q.y -ℤ e.p.y))))

-- e is nowhere above f: not at any whole x of both
abbrev pub IsUnder : Edge → Edge → Type 0
IsUnder e f = (x : ℤ) → e.p.x ≤ℤ x → x ≤ℤ e.q.x → f.p.x ≤ℤ x → x ≤ℤ f.q.x → pos 0 ≤ℤ rise_over f e x

-- e reaches v from the left: it is of the list and not upright, it begins before v and does not end before v
pub record Reaches (es : List Edge) (v : Pt) (e : Edge) : Type 0 where
  pub inside : Contains es e
  pub slopes : e.p.x <ℤ e.q.x
  pub begun : IsBefore e.p v
  pub lasts : ¬ (IsBefore e.q v)

-- e goes on from v to the right: it begins at v or before, and ends after v
pub record GoesOn (es : List Edge) (v : Pt) (e : Edge) : Type 0 where
  pub inside : Contains es e
  pub slopes : e.p.x <ℤ e.q.x
  pub begun : IsUpTo e.p v
  pub lasts : IsBefore v e.q

-- the edges that stand are exactly those for which P holds, from low to high
pub record AreStanding (P : Edge → Type 0) (standing : List Edge) : Type 0 where
  pub exact : (e : Edge) → Contains standing e ↔ P e
  pub order : AllPairs IsUnder standing

-- f is steeper than g, upright edges being the steepest: for edges with a common first end
abbrev pub IsSteeper : Edge → Edge → Type 0
IsSteeper f g = pos 0 <ℤ turn g.p g.q f.p f.q

-- the test of it
abbrev pub is_steeper : Edge → Edge → Bool
is_steeper f g = int_lt (pos 0) (turn g.p g.q f.p f.q)

-- the edges that begin at v, the steepest first
pub record AreSpokes (es : List Edge) (v : Pt) (spokes : List Edge) : Type 0 where
  pub exact : (e : Edge) → Contains spokes e ↔ (Contains es e × (e.p ≡ v))
  pub order : AllPairs IsSteeper spokes

-- those of them that are not upright, from low to high
pub record AreFresh (es : List Edge) (v : Pt) (fresh : List Edge) : Type 0 where
  pub exact : (e : Edge) → Contains fresh e ↔ (Contains es e × (e.p.x <ℤ e.q.x) × (e.p ≡ v))
  pub order : AllPairs IsUnder fresh

-- v is an end of some edge
pub record IsVertexOf (es : List Edge) (v : Pt) : Type 0 where
  pub edge : Edge
  pub inside : Contains es edge
  pub ends : (v ≡ edge.p) ⊎ (v ≡ edge.q)

-- the vertices, ascending
pub record AreVertices (es : List Edge) (vertices : List Pt) : Type 0 where
  pub ascending : AllPairs IsBefore vertices
  pub exact : (v : Pt) → Contains vertices v ↔ IsVertexOf es v

-- all ends of the edges, in any order and any number of times
abbrev pub AreEnds : List Edge → List Pt → Type 0
AreEnds es ends = (v : Pt) → Contains ends v ↔ IsVertexOf es v

-- of the ascending edges `own` those from one number to another are the edges of the list that begin at v
pub record IsRangeAt (counted own : List Counted) (v : Pt) (from to : ℕ) : Type 0 where
  pub order : from ≤ to
  pub within : to ≤ length own
  pub ascending : AllPairs (λ c d. IsEdgeBefore c.edge d.edge) own
  pub exact : (c : Counted) → Contains (slice_range own from to) c ↔ (Contains counted c × (c.edge.p ≡ v))
