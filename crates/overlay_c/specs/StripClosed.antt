-- What the call for C answers for the directed edges that are closed in a range of strips (own).
use Rattle.std.specs.Prelude.{◌≡◌, ◌<◌, ◌≤◌, ◌+◌, ℕ, ℤ, List, length, map}
use Rattle.geom.specs.declared.directed.DirectedEdge.{DirectedEdge}
use Rattle.geom.specs.Directed.{AreDirected}
use Rattle.geom.specs.NodedEdges.{AreNodedEdges}
use Rattle.parts_law.specs.Ties.{AreParted, HasColumn}
use Rattle.overlay_c.specs.declared.strip_answer.OverlayStripAnswer.{OverlayStripAnswer}
use Rattle.overlay_c.specs.declared.strip_items.OverlayDirected.{OverlayDirected}
use Rattle.overlay_c.specs.Polygons.{IsDirectedItem, IsDirectedItemBefore, directed_edge, directed_edges}
use Rattle.overlay_c.specs.Strips.{AreInPlace, IsCut, IsCutBefore, IsFirstBad, Lists, told_of_strip}
use Rattle.overlay_c.specs.StripLabels.{told_directed}

-- ---- what the list has to be

-- the strips from one to before another one are some of those between the cuts
pub record AreStrips (cuts : List ℤ) (first past : ℕ) : Type 0 where
  pub some : first < past
  pub within : past ≤ length cuts + 1

-- within the limit, no point alone, and with a column of the strips
pub record IsKnownItem (cuts : List ℤ) (first past : ℕ) (o : OverlayDirected) : Type 0 where
  pub is_item : IsDirectedItem o
  pub has_column : HasColumn cuts first past (directed_edge o)

-- there are such strips, the cuts ascend, and the list is in place
pub record AreKnownItems (cuts : List ℤ) (first past : ℕ) (known : List OverlayDirected) : Type 0 where
  pub are_strips : AreStrips cuts first past
  pub ascending : AreInPlace IsCut IsCutBefore cuts
  pub in_place : AreInPlace (IsKnownItem cuts first past) IsDirectedItemBefore known

-- ---- what is closed

-- The lists are those of some directed edges. Where the known ones run one way and meet only at ends, these are those of them that are closed in the
-- strips, and those open ones that begin there.
pub record AreClosedTold (cuts : List ℤ) (first past : ℕ) (known : List OverlayDirected) (lists : Lists OverlayDirected OverlayDirected ℕ) : Type 0 where
  pub sound : AreKnownItems cuts first past known
  pub closed : List DirectedEdge
  pub closed_are : lists.first ≡ map told_directed closed
  pub open_ones : List DirectedEdge
  pub open_are : lists.second ≡ map told_directed open_ones
  pub parted : AreDirected (directed_edges known) → AreNodedEdges (directed_edges known) → AreParted cuts first past (directed_edges known) closed open_ones

-- why there are none: no such strips, a cut or an edge out of place, or memory ran out
pub data FailsClosed (cuts : List ℤ) (first past : ℕ) (known : List OverlayDirected) : OverlayStripAnswer → Type 0 where
  no_strips : ¬ (AreStrips cuts first past) → FailsClosed cuts first past known (told_of_strip 2 0 0 0)
  bad_cut : AreStrips cuts first past → (place : ℕ) → IsFirstBad IsCut IsCutBefore cuts place → FailsClosed cuts first past known (told_of_strip 3 18 3 place)
  bad_edge : AreStrips cuts first past → AreInPlace IsCut IsCutBefore cuts → (place : ℕ) → IsFirstBad (IsKnownItem cuts first past) IsDirectedItemBefore known place
      → FailsClosed cuts first past known (told_of_strip 3 18 0 place)
  no_memory : AreKnownItems cuts first past known → FailsClosed cuts first past known (told_of_strip 1 10 0 0)
