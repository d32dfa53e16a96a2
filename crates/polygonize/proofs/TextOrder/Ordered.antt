-- The written rings, sorted by place and grouped, are the polygons.
use Rattle.std.proofs.Common.{List}
use Rattle.std.specs.Prelude.{IsPermutation}
use Rattle.std.specs.List.Sorted.{IsSortedByKey}
use Rattle.geom.specs.declared.directed.DirectedEdge.{DirectedEdge}
use Rattle.geom.specs.Canonical.{Shape, ArePolygons}
use Rattle.geom.specs.Directed.{AreDirected}
use Rattle.geom.specs.NodedEdges.{AreNodedEdges}
use Rattle.polygonize.specs.Grouped.{BeginsWithShell, AreGrouped}
use Rattle.polygonize.specs.Placed.{PlacedRing, AreAllWritten, points, stands_as_hole}
use Rattle.polygonize.proofs.TextOrder.Assembled.{are_one, assembled}
use Rattle.polygonize.proofs.TextOrder.Entries.{begins, entries}
use Rattle.polygonize.proofs.TextOrder.Places.{place_cmp}

module _ (ds : List DirectedEdge) (a : AreDirected ds) (n : AreNodedEdges ds) (ws vs : List PlacedRing) where
  pub shell_first : AreAllWritten ds ws → IsPermutation ws vs → IsSortedByKey (λ w. w.place) place_cmp vs → BeginsWithShell stands_as_hole vs
  shell_first w p s = begins ds w.0 (are_one ds w.0 a n w.1.are_rings) vs (entries ds a w.0 ws vs w.1 p s)

  pub grouped_polygons : (shapes : List Shape) → AreAllWritten ds ws → IsPermutation ws vs → IsSortedByKey (λ w. w.place) place_cmp vs → AreGrouped stands_as_hole (points ds) vs shapes → ArePolygons ds shapes
  grouped_polygons shapes w p s g = assembled ds a w.0 w.1.are_rings (are_one ds w.0 a n w.1.are_rings) vs (entries ds a w.0 ws vs w.1 p s) shapes g
