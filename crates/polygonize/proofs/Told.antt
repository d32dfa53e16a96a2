-- The written rings, sorted by place, are those of the polygons.
use Rattle.std.proofs.Common.{List, map}
use Rattle.std.specs.Prelude.{All, IsPermutation}
use Rattle.std.specs.List.Sorted.{IsSortedByKey}
use Rattle.std.proofs.lemmas.List.Elements.{All-weaker}
use Rattle.std.proofs.lemmas.List.Sorted.{All-permutation}
use Rattle.geom.specs.declared.directed.DirectedEdge.{DirectedEdge}
use Rattle.geom.specs.Directed.{AreDirected}
use Rattle.geom.specs.NodedEdges.{AreNodedEdges}
use Rattle.polygonize.specs.Placed.{PlacedRing, AreAllWritten, points, rings_in, stands_as_hole}
use Rattle.polygonize.specs.Told.{AreToldRings, ring_told}
use Rattle.polygonize.specs.Written.{HaveEdges, IsCanonical, IsSound}
use Rattle.polygonize.proofs.Least.{least_rings, simple_rings}
use Rattle.polygonize.proofs.TextOrder.Ordered.{grouped_polygons, shell_first}
use Rattle.polygonize.proofs.TextOrder.Places.{place_cmp}
use Rattle.polygonize.proofs.TextOrder.Telling.{groups_of, rings_told, rings_written}
use Rattle.polygonize.proofs.WrittenRings.Writing.{text_has_each, unmapped}

module _ (ds : List DirectedEdge) (ws vs : List PlacedRing) (c : All (IsCanonical ds) (rings_in ws)) (p : IsPermutation ws vs) where
  canonical : All (λ w. IsCanonical ds w.ring) vs
  canonical = All-permutation (λ w. IsCanonical ds w.ring) ws vs p (unmapped (IsCanonical ds) (λ w. w.ring) ws c)

  pub sound : All (λ w. IsSound ds w.ring) vs
  sound = All-weaker (λ w. IsCanonical ds w.ring) (λ w. IsSound ds w.ring) (λ w k. k.sound) vs canonical

  pub are_told : AreDirected ds → AreNodedEdges ds → AreAllWritten ds ws → HaveEdges ds (rings_in ws) → IsSortedByKey (λ w. w.place) place_cmp vs → AreToldRings ds (map (ring_told ds) vs)
  are_told a n w h s =
      let g = groups_of stands_as_hole (points ds) vs (shell_first ds a n ws vs w p s) in
      let rings = rings_written stands_as_hole (points ds) vs g.0 g.1 in
      record {
        polygons = g.0;
        are_told = rings_told stands_as_hole (points ds) vs g.0 g.1;
        are_polygons = grouped_polygons ds a n ws vs g.0 w p s g.1;
        each_edge = text_has_each (λ w. w.ring) ds ws vs g.0 h p rings;
        simple = simple_rings (λ w. w.ring) ds vs g.0 sound rings;
        least = least_rings (λ w. w.ring) ds a vs g.0 canonical rings;
      }
