-- What is told of ranges of strips, up to the polygons of all strips (own).
use Rattle.std.specs.Prelude.{◌≡◌, ◌⊎◌, ◌↔◌, ◌<◌, ◌+◌, ◌++◌, ◌∷◌, ℕ, ℤ, List, [], AllPairs, Contains, flat_map, get_or, length}
use Rattle.geom.specs.declared.directed.DirectedEdge.{DirectedEdge}
use Rattle.geom.specs.declared.point.Pt.{Pt}
use Rattle.geom.specs.Canonical.{ArePolygons, Shape}
use Rattle.geom.specs.Directed.{AreDirected, IsDirectedBefore}
use Rattle.geom.specs.ListOrder.{IsListBefore}
use Rattle.geom.specs.NodedEdges.{AreNodedEdges}
use Rattle.strips_law.specs.Strips.{strip_at}
use Rattle.parts_law.specs.Bounds.{AreBounds}
use Rattle.parts_law.specs.Ties.{AreComing, AreKnown, AreParted}
use Rattle.strip_polygons.specs.Strips.{AreInOrder}

-- ---- ranges

-- What is told of a range by the edges that it knows, wherever these run one way and meet only at ends: the open ones that begin there, and the
-- polygons of the closed ones, wherever these bound a part of the plane.
pub record IsRangeTold (cuts : List ℤ) (from past : ℕ) (known open_ones : List DirectedEdge) (found : List Shape) : Type 0 where
  pub closed : List DirectedEdge
  pub parted : AreDirected known → AreNodedEdges known → AreParted cuts from past known closed open_ones
  pub polygons : AreBounds closed → ArePolygons closed found

-- what comes into the first of two ranges that touch, and what is open in either, ascending
pub record AreOfBoth (coming first second known : List DirectedEdge) : Type 0 where
  pub ascending : AllPairs IsDirectedBefore known
  pub exact : (d : DirectedEdge) → Contains known d ↔ (Contains coming d ⊎ (Contains first d ⊎ Contains second d))

-- Of a strip it was told by the directed edges that have a column of it; of two ranges that touch by what comes into the first one of these edges, and
-- what is open in either. What is open in the end, and all polygons that were found.
pub data AreRangesTold (cuts : List ℤ) (directed : List DirectedEdge) : ℕ → ℕ → List DirectedEdge → List Shape → Type 0 where
  one_strip : {strip : ℕ} {known open_ones : List DirectedEdge} {found : List Shape} → AreKnown cuts strip (strip + 1) directed known
      → IsRangeTold cuts strip (strip + 1) known open_ones found → AreRangesTold cuts directed strip (strip + 1) open_ones found
  two_ranges : {from middle past : ℕ} {coming first second known open_ones : List DirectedEdge} {found_first found_second found : List Shape}
      → AreRangesTold cuts directed from middle first found_first → AreRangesTold cuts directed middle past second found_second
      → AreComing cuts from directed coming → AreOfBoth coming first second known → IsRangeTold cuts from past known open_ones found
      → AreRangesTold cuts directed from past open_ones (found_first ++ (found_second ++ found))

-- in order, the polygons that were found in all strips are those of the directed edges
abbrev pub RangesHavePolygons : Type 0
RangesHavePolygons = (cuts : List ℤ) (directed open_ones : List DirectedEdge) (found all : List Shape) → AreBounds directed
    → AreRangesTold cuts directed 0 (length cuts + 1) open_ones found → AreInOrder found all → ArePolygons directed all

-- ---- strip by strip

-- the first vertex of the shell lies in the strip
pub record BeginsWithin (cuts : List ℤ) (strip : ℕ) (p : Shape) : Type 0 where
  pub vertex : Pt
  pub rest : List Pt
  pub shell : p.shell ≡ vertex ∷ rest
  pub lies : strip_at cuts vertex ≡ strip

-- those of the polygons that begin in the strip, in the order of their shells
pub record AreOfStrip (cuts : List ℤ) (found : List Shape) (strip : ℕ) (written : List Shape) : Type 0 where
  pub ascending : AllPairs (λ p q. IsListBefore p.shell q.shell) written
  pub exact : (p : Shape) → Contains written p ↔ (Contains found p × BeginsWithin cuts strip p)

-- so for each strip
pub record AreByStrip (cuts : List ℤ) (found : List Shape) (written : List (List Shape)) : Type 0 where
  pub strips : length written ≡ length cuts + 1
  pub each : (strip : ℕ) → strip < length written → AreOfStrip cuts found strip (get_or written strip [])

-- behind one another they are the polygons of the directed edges
abbrev pub StripsHavePolygons : Type 0
StripsHavePolygons = (cuts : List ℤ) (directed open_ones : List DirectedEdge) (found : List Shape) (written : List (List Shape)) → AreBounds directed
    → AreRangesTold cuts directed 0 (length cuts + 1) open_ones found → AreByStrip cuts found written → ArePolygons directed (flat_map (λ ps. ps) written)
