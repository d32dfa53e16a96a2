-- The steps one behind another, from the rings of all parts to the polygons of all strips.
use Rattle.std.proofs.Common.{◌≡◌, ◌+◌, ◌++◌, ℕ, List, arith, flat_map, slice_get, Some, subst}
use Rattle.std.proofs.Math.IntN.{ℤ}
use Rattle.std.proofs.Math.Logic.{∥∥₁_elim, ∥∥₁_map}
use Rattle.std.proofs.Props.{props}
use Rattle.geom.specs.declared.op.Op.{Op}
use Rattle.geom.specs.declared.edge.Counted.{Counted}
use Rattle.geom.specs.declared.segment.Source.TheVariants.{A, B}
use Rattle.geom.specs.Canonical.{Shape}
use Rattle.geom.specs.Rounded.{AreRounded}
use Rattle.noding_law.proofs.Rounding.{rounded_noded}
use Rattle.points_law.specs.Law.{AreLayers}
use Rattle.points_law.specs.Polygons.{AreResultPolygons}
use Rattle.points_law.proofs.ClosedSegments.{rings_closed}
use Rattle.points_law.proofs.OneResult.{one_result}
use Rattle.points_law.proofs.RoundedLayers.{rounded_layers}
use Rattle.strips_law.specs.Strips.{AreEdgesOf}
use Rattle.strips_law.proofs.Rounded.{lines_ordered, strips_rounded}
use Rattle.phases.specs.Labels.{AreOfStrip}
use Rattle.phases.proofs.StripLabels.{edges_are_of_strips}
use Rattle.parts_law.proofs.ResultBounds.{result_edges_are_bounds}
use Rattle.strip_polygons.proofs.RangesInOrder.{strips_together}
use Rattle.strip_polygons.proofs.RangesLaw.{ranges_have_polygons}
use Rattle.strip_map_law.specs.Whole.{AreThoseOfRun, IsDoneByStrips, Part, WholeIsRun, rings_of, segments_of}
use Rattle.strip_map_law.proofs.Labelled.{result_of_strips}
use Rattle.strip_map_law.proofs.Rounded.{AreFrom, all_rounded}
use Rattle.strip_map_law.proofs.Scattered.{AreJoined, are_in_limit, are_segments, both_joined}

module _ (op : Op) (cuts : List ℤ) (first second : List Part) (written : List (List Shape)) (h : IsDoneByStrips op cuts first second written) where
  abbrev counted : List Counted
  counted = flat_map (λ edges. edges) h.strips

  abbrev all : List Shape
  all = flat_map (λ polygons. polygons) written

  joined : AreJoined cuts 0 (first ++ second)
  joined = both_joined cuts first second h.scattered_first h.scattered_second

  module _ (t : AreFrom cuts joined.lines 0 h.carried h.strips) where
    each : (strip : ℕ) (edges : List Counted) → slice_get h.strips strip ≡ Some edges → AreEdgesOf cuts strip joined.lines edges
    each strip edges is = let e : 0 + strip ≡ strip = omega arith in subst (λ (n : ℕ). AreEdgesOf cuts n joined.lines edges) e (t.each strip edges is)

    rounded : AreRounded (segments_of (first ++ second)) counted
    rounded = let count = t.one_each in strips_rounded cuts (segments_of (first ++ second)) joined.lines h.strips joined.are_lines (omega (arith, count)) each

    layers : AreLayers counted
    layers =
        let ss = segments_of (first ++ second) in
        let are = are_segments cuts first second h.scattered_first h.scattered_second in
        rounded_layers ss counted rounded (are_in_limit cuts first second h.scattered_first h.scattered_second)
        (rings_closed (rings_of first) (rings_of second) ss are A) (rings_closed (rings_of first) (rings_of second) ss are B) (rounded_noded ss counted rounded)

    those : AreResultPolygons op (rings_of first) (rings_of second) all
    those =
        let bound = result_of_strips op cuts h.strips h.alongs h.directed layers (λ k own is. let e : k ≡ 0 + k = omega arith in
        subst (λ (n : ℕ). AreOfStrip cuts n counted own) e (edges_are_of_strips cuts joined.lines h.strips each k own is)) h.are_labelled h.are_directed in
        record {
          segments = segments_of (first ++ second);
          are_segments = are_segments cuts first second h.scattered_first h.scattered_second;
          counted = counted;
          are_rounded = rounded;
          directed = h.directed;
          are_edges = bound;
          are_polygons = strips_together ranges_have_polygons cuts h.directed h.waiting h.found written (result_edges_are_bounds op counted h.directed layers bound) h.are_found h.are_written;
        }

  result : ∥ AreResultPolygons op (rings_of first) (rings_of second) all ∥₁
  result = ∥∥₁_map (all_rounded cuts joined.lines (lines_ordered 0 (segments_of (first ++ second)) joined.lines joined.are_lines) (first ++ second) joined.in_strip h.are_rounded) those

  shapes_prop : (polygons others : List Shape) → IsProp (polygons ≡ others)
  shapes_prop polygons others = hlevel props

  pub those_of_run : AreThoseOfRun op (rings_of first) (rings_of second) all
  those_of_run = record {
    result = result;
    one = λ others o. ∥∥₁_elim result (shapes_prop others all) (λ r. one_result op (rings_of first) (rings_of second) others all o r);
  }

pub whole_is_run : WholeIsRun
whole_is_run op cuts first second written h = those_of_run op cuts first second written h
