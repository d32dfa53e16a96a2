-- From a strip to the next one: what is closed has its polygons, and what is left is partway.
use Rattle.std.proofs.Common.{◌+◌, ◌++◌, ◌<◌, ℕ, List, [], length}
use Rattle.std.specs.Prelude.{ℤ}
use Rattle.geom.specs.declared.directed.DirectedEdge.{DirectedEdge}
use Rattle.geom.specs.Canonical.{ArePolygons, Shape}
use Rattle.geom.specs.Directed.{AreDirected}
use Rattle.geom.specs.NodedEdges.{AreNodedEdges}
use Rattle.parts_law.specs.Bounds.{AreBounds}
use Rattle.parts_law.specs.Ties.{AreParted}
use Rattle.parts_law.proofs.ClosedApart.{closed_apart}
use Rattle.parts_law.proofs.Bounds.{part_is_bounds}
use Rattle.parts_law.proofs.Parts.{others_are_apart}
use Rattle.parts_law.proofs.Polygons.{polygons_together}
use Rattle.strip_polygons.specs.Strips.{AreInOrder, AreMet, ArePartway}
use Rattle.strip_polygons.proofs.StripsLeft.{all_left, closed_in, left_behind, met_directed, met_noded, none_left, others}
use Rattle.strip_polygons.proofs.StripsPolygons.{all_found, more_found, none_found}

-- before the first strip nothing waits, and nothing is found
pub first_partway : (cuts : List ℤ) (directed : List DirectedEdge) → AreBounds directed → ArePartway cuts 0 directed [] []
first_partway cuts directed bounds = record { left = directed; are_left = all_left cuts directed bounds; completed = none_found directed }

-- behind the last strip all is found
pub last_partway : (cuts : List ℤ) (strip : ℕ) (directed waiting : List DirectedEdge) (polygons : List Shape) → length cuts < strip
    → ArePartway cuts strip directed waiting polygons → (all : List Shape) → AreInOrder polygons all → ArePolygons directed all
last_partway cuts strip directed waiting polygons past w =
    all_found directed w.left polygons (none_left cuts strip directed waiting w.left past w.are_left) w.completed

-- ---- from a strip to the next one
module _ (cuts : List ℤ) (strip : ℕ) (directed waiting met : List DirectedEdge) (before : List Shape)
    (w : ArePartway cuts strip directed waiting before) (m : AreMet cuts strip waiting directed met) where
  -- what is met meets only at ends
  pub partway_noded : AreNodedEdges met
  partway_noded = met_noded cuts strip directed waiting w.left met w.are_left m

  -- and none of it stands in both directions
  pub partway_directed : AreDirected met
  partway_directed = met_directed cuts strip directed waiting w.left met w.are_left m

  module _ (closed open_ones : List DirectedEdge) (p : AreParted cuts 0 (strip + 1) met closed open_ones) where
    abbrev now_left : List DirectedEdge
    now_left = others cuts strip directed waiting w.left met w.are_left m closed open_ones p

    bounds : AreBounds closed × AreBounds now_left
    bounds =
        let c = closed_in cuts strip directed waiting w.left met w.are_left m closed open_ones p in
        let a = closed_apart cuts 0 (strip + 1) w.left closed now_left c in
        (part_is_bounds w.left closed now_left c.bounds a, part_is_bounds w.left now_left closed c.bounds (others_are_apart w.left closed now_left a))

    -- what is closed bounds a part of the plane
    pub closed_bounds : AreBounds closed
    closed_bounds = bounds.0

    -- and with its polygons the next strip is begun
    pub next_partway : (found : List Shape) → ArePolygons closed found → ArePartway cuts (strip + 1) directed open_ones (before ++ found)
    next_partway found are = record {
      left = now_left;
      are_left = left_behind cuts strip directed waiting w.left met w.are_left m closed open_ones p bounds.1;
      completed =
          let c = closed_in cuts strip directed waiting w.left met w.are_left m closed open_ones p in
          let a = closed_apart cuts 0 (strip + 1) w.left closed now_left c in
          more_found directed w.left closed now_left before found w.completed (polygons_together w.left closed now_left c.bounds a) are;
    }
