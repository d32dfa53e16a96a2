-- The polygons of a result are one, and tell of points what covers them.
use Rattle.std.proofs.Common.{◌≡◌, ℕ, List, ◌++◌, length, sym, ◌∙◌, subst}
use Rattle.geom.specs.declared.segment.Seg.{Seg}
use Rattle.geom.specs.declared.directed.DirectedEdge.{DirectedEdge}
use Rattle.geom.specs.Canonical.{ArePolygons}
use Rattle.geom.proofs.SamePolygons.{same_polygons}
use Rattle.points_law.proofs.OneResult.{same_segments}
use Rattle.cover_law.specs.Borders.{AreBordered}
use Rattle.cover_law.specs.Cover.{AreBorders, Bordered}
use Rattle.cover_law.proofs.ClosedFeatures.{features_of_rings_close}
use Rattle.cover_law.proofs.FaceLaws.{bordered_noded}
use Rattle.cover_law.proofs.RoundedBorders.{borders_are_one, rounded_are_borders}
use Rattle.covered.specs.Covered.{AreCoveredEdges}
use Rattle.covered.specs.Results.{CoveredPolygonsAreOne, CoveredPolygonsTell}
use Rattle.covered.proofs.CoveredEdges.{covered_edges_are_one}
use Rattle.covered.proofs.CoveredLayers.{covered_tells}

pub covered_polygons_are_one : CoveredPolygonsAreOne
covered_polygons_are_one op a b polygons others h k =
    same_polygons k.directed k.are_edges.ascending polygons others (subst (λ (ds : List DirectedEdge). ArePolygons ds polygons) directed h.are_polygons) k.are_polygons
  where
    segments : h.segments ≡ k.segments
    segments = same_segments h.segments k.segments (h.are_segments.parts_are ∙ sym k.are_segments.parts_are)

    owners : h.owners ≡ k.owners
    owners = h.are_segments.owners_are ∙ sym k.are_segments.owners_are

    edges : h.edges ≡ k.edges
    edges = borders_are_one (length (a ++ b)) k.segments k.owners h.edges k.edges
        (subst (λ (x : List Seg × List ℕ). AreBordered (length (a ++ b)) x.0 x.1 h.edges) (λ i. (segments i, owners i)) h.are_bordered) k.are_bordered

    directed : h.directed ≡ k.directed
    directed = covered_edges_are_one op (length a) (length (a ++ b)) k.edges h.directed k.directed
        (subst (λ (bs : List Bordered). AreCoveredEdges op (length a) (length (a ++ b)) bs h.directed) edges h.are_edges) k.are_edges

pub covered_polygons_tell : CoveredPolygonsTell
covered_polygons_tell op a b polygons h limits z =
    let borders : AreBorders h.edges = rounded_are_borders (length (a ++ b)) h.segments h.owners h.edges h.are_bordered limits
    (λ f l. features_of_rings_close (a ++ b) h.segments h.owners h.are_segments f)
    (bordered_noded (length (a ++ b)) h.segments h.owners h.edges h.are_bordered) in
    covered_tells op (length a) (length (a ++ b)) h.edges borders h.directed h.are_edges polygons h.each_edge z
