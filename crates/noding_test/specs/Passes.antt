-- The least bad pair over tiles (own).
use Rattle.std.specs.Prelude.{◌≡◌, ◌↔◌, ◌⊎◌, ◌<◌, ℕ, List, Contains, Option, Some, None, slice_get}
use Rattle.geom.specs.declared.point.Pt.{Pt}
use Rattle.geom.specs.declared.rect.Rect.{Rect}
use Rattle.geom.specs.declared.edge.Edge.{Edge}
use Rattle.geom.specs.declared.edge.Counted.{Counted}
use Rattle.geom.specs.declared.fault.Fault.{Fault}
use Rattle.geom.specs.declared.fault.Fault.TheVariants.{Memory, NotNoded}
use Rattle.geom.specs.Box.{IsInBox, greatest_corner, least_corner}
use Rattle.geom.specs.Noded.{IsLeastBad, IsPairBefore}
use Rattle.tiling.specs.Bins.{Binned}
use Rattle.grid.specs.Tiles.{Tiling, Owns, HasTile}
use Rattle.hot_region.specs.Rects.{IsIn}
use Rattle.linking.specs.Gathered.{AreBoxesBy}
use Rattle.chain_gather.specs.Gathered.{AreBinsBy}
use Rattle.linking.specs.declared.rounded.Rounded.{Rounded}
use Rattle.linking.specs.declared.noded.Noded.{Noded}
use Rattle.noding_test.specs.declared.verdicts.Verdict.{Verdict}
use Rattle.noding_test.specs.Verdicts.{IsOwnBad, chosen_edges}

-- ---- what a caller hands in

-- every point of each edge's box has a tile
abbrev pub EdgesHaveTiles : Tiling → List Edge → Type 0
EdgesHaveTiles g edges = (e : Edge) (p : Pt) → Contains edges e → IsInBox (least_corner e.p e.q) (greatest_corner e.p e.q) p → HasTile g p

-- the bounds hold the ends of all edges; without bounds there are none
abbrev pub BoundsHoldEdges : Option Rect → List Edge → Type 0
BoundsHoldEdges None edges = (e : Edge) → ¬ (Contains edges e)
BoundsHoldEdges (Some r) edges = (e : Edge) → Contains edges e → IsInBox r.lo r.hi e.p × IsInBox r.lo r.hi e.q

-- ---- what is answered

-- the same edges, counts and numbers
abbrev pub IsAllOf : {A : Type 0} → Rounded A → Noded A → Type 0
IsAllOf rounded noded = (noded.edges ≡ rounded.edges) × (noded.tiles ≡ rounded.tiles) × (noded.remade ≡ rounded.remade)

-- want of memory, or the least bad pair
abbrev pub IsTestFault : List Edge → Fault → Type 0
IsTestFault edges fault = (fault ≡ Memory) ⊎ ((e f : Edge) × (fault ≡ NotNoded e f) × IsLeastBad edges e f)

-- ---- the edges near a tile

abbrev pub edge_corners : Counted → Pt × Pt
edge_corners c = (least_corner c.edge.p c.edge.q, greatest_corner c.edge.p c.edge.q)

-- the least boxes of the edges, in their order
abbrev pub AreBoxesOfEdges : List Counted → List Rect → Type 0
AreBoxesOfEdges counted boxes = AreBoxesBy edge_corners counted boxes

-- the bins are those of the edges' boxes over the grid
abbrev pub AreBinsOfEdges : Tiling → List Counted → Binned → Type 0
AreBinsOfEdges g counted bins = AreBinsBy edge_corners g counted bins

-- ---- which verdicts of a book count

-- the verdict was made from what tile k has: its rectangle, and the edges of these numbers
pub record IsOwnVerdict {A : Type 0} (g : Tiling) (k : ℕ) (counted : List Counted) (numbers : List ℕ) (verdict : Verdict A) : Type 0 where
  pub tile : (p : Pt) → IsIn verdict.tile p ↔ Owns g k p
  pub edges : verdict.edges.items ≡ chosen_edges counted numbers

-- place k holds a verdict that was made from what tile k has
pub record HoldsOwnVerdict {A : Type 0} (g : Tiling) (k : ℕ) (counted : List Counted) (numbers : List ℕ) (held : List (Option (Verdict A))) : Type 0 where
  pub verdict : Verdict A
  pub is_at : slice_get held k ≡ Some (Some verdict)
  pub own : IsOwnVerdict g k counted numbers verdict

-- the verdict that place k holds, where it was made from what tile k has
abbrev pub IsHeldVerdict : {A : Type 0} → List (Option (Verdict A)) → Tiling → ℕ → List Counted → List ℕ → Verdict A → Type 0
IsHeldVerdict held g k counted numbers verdict = (slice_get held k ≡ Some (Some verdict)) × IsOwnVerdict g k counted numbers verdict

-- ---- the least of all tiles

-- a bad pair that belongs to one of the tiles below k
abbrev pub IsBadBelow : Tiling → ℕ → List Edge → Edge → Edge → Type 0
IsBadBelow g k edges e f = (j : ℕ) × (j < k) × IsOwnBad (Owns g j) edges e f

-- found is the lesser of two pairs, or the only one
abbrev pub IsLesser : Option (Edge × Edge) → Option (Edge × Edge) → Option (Edge × Edge) → Type 0
IsLesser None other found = found ≡ other
IsLesser (Some x) None found = found ≡ Some x
IsLesser (Some x) (Some y) found = ((found ≡ Some x) × ¬ (IsPairBefore y.0 y.1 x.0 x.1)) ⊎ ((found ≡ Some y) × IsPairBefore y.0 y.1 x.0 x.1)
