-- Which directed edges have a column of some strips, and lists of those that do.
use Rattle.std.proofs.Common.{◌≡◌, ◌<◌, ◌≤◌, ◌⊎◌, inl, inr, ℕ, List, map, subst, sym}
use Rattle.std.proofs.Math.IntN.{ℤ}
use Rattle.geom.specs.declared.edge.Edge.{Edge}
use Rattle.geom.specs.declared.directed.DirectedEdge.{DirectedEdge}
use Rattle.geom.specs.Directed.{AreDirected, RunsAlong}
use Rattle.geom.specs.NodedEdges.{AreNodedEdges}
use Rattle.geom.proofs.Edges.{one_run}
use Rattle.parts_law.specs.Ties.{AreParted, HasColumn}
use Rattle.strips_law.specs.Strips.{strip_at}
use Rattle.overlay_c.specs.declared.strip_items.OverlayDirected.{OverlayDirected}
use Rattle.overlay_c.specs.Polygons.{AreDirectedItems, directed_edges}
use Rattle.overlay_c.specs.StripClosed.{AreClosedTold, AreKnownItems}
use Rattle.overlay_c.specs.StripLabels.{told_directed}
use Rattle.overlay_c.specs.Strips.{two_lists}

-- ---- columns

-- e has the ends of d
abbrev pub HasEndsOf : DirectedEdge → Edge → Type 0
HasEndsOf d e = ((e.p ≡ d.from) × (e.q ≡ d.to)) ⊎ ((e.p ≡ d.to) × (e.q ≡ d.from))

-- so d runs along it
pub runs_along : (d : DirectedEdge) (e : Edge) → HasEndsOf d e → RunsAlong d e
runs_along d e (inl (h, k)) = inl (λ i. record { from = sym h i; to = sym k i })
runs_along d e (inr (h, k)) = inr (λ i. record { from = sym k i; to = sym h i })

module _ (cuts : List ℤ) (first past : ℕ) (d : DirectedEdge) where
  -- one edge along d tells of its columns
  pub column_tells : (e : Edge) → HasEndsOf d e → HasColumn cuts first past d → (strip_at cuts e.p < past) × (first ≤ strip_at cuts e.q)
  column_tells e ends h = subst (λ (f : Edge). (strip_at cuts f.p < past) × (first ≤ strip_at cuts f.q)) (one_run d h.edge e h.runs (runs_along d e ends)) (h.begins, h.ends)

-- ---- lists

module _ (cuts : List ℤ) (first past : ℕ) (known : List OverlayDirected) (sound : AreKnownItems cuts first past known) where
  pub directed_items : AreDirectedItems known
  directed_items place inside = let at = sound.in_place place inside in record { is_item = λ o. (at.is_item o).is_item; behind = at.behind }

  -- what was made of the known edges is told
  pub closed_told : (closed open_ones : List DirectedEdge) (edges : List DirectedEdge) → edges ≡ directed_edges known
      → (AreDirected edges → AreNodedEdges edges → AreParted cuts first past edges closed open_ones)
      → (told_closed told_open : List OverlayDirected) → told_closed ≡ map told_directed closed → told_open ≡ map told_directed open_ones
      → AreClosedTold cuts first past known (two_lists told_closed told_open)
  closed_told closed open_ones edges same parted told_closed told_open closed_are open_are = record {
    sound = sound;
    closed = closed;
    closed_are = closed_are;
    open_ones = open_ones;
    open_are = open_are;
    parted = subst (λ (es : List DirectedEdge). AreDirected es → AreNodedEdges es → AreParted cuts first past es closed open_ones) same parted;
  }
