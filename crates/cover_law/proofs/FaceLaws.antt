-- Faces are one, and tell what covers a point.
use Rattle.std.proofs.Common.{◌≡◌, ◌⊎◌, inl, inr, ℕ, List, sym, ◌∙◌, subst, ⊎_elim, length}
use Rattle.std.specs.List.{Contains}
use Rattle.std.specs.Prelude.{flat_map}
use Rattle.geom.specs.declared.point.Pt.{Pt}
use Rattle.geom.specs.declared.segment.Seg.{Seg}
use Rattle.geom.specs.declared.edge.Edge.{Edge}
use Rattle.geom.specs.Noded.{IsNoded}
use Rattle.geom.specs.Rounded.{joins}
use Rattle.geom.specs.Segments.{neighbours}
use Rattle.geom.proofs.Edges.{edge_path, not_turned}
use Rattle.geom.proofs.Lists.{contains_in, in_contains, in_map, some_passes}
use Rattle.geom.proofs.RouteLaws.{Among, all_proper}
use Rattle.geom.proofs.RouteLists.{AreNext, IsRoundedEdge}
use Rattle.geom.proofs.Steps.{FromRoute, StepOf, joined}
use Rattle.noding_law.proofs.Rounding.{end_of, rounded_from}
use Rattle.noding_law.proofs.Routes.{rounded_edges_noded}
use Rattle.points_law.proofs.OneResult.{same_segments}
use Rattle.cover_law.specs.Borders.{AreBordered}
use Rattle.cover_law.specs.Cover.{AreBorders, Bordered, edge_in, edges_in}
use Rattle.cover_law.specs.Rows.{AreRows}
use Rattle.cover_law.specs.Faces.{FacesAreOne, FacesTell}
use Rattle.cover_law.proofs.ClosedFeatures.{features_of_rings_close}
use Rattle.cover_law.proofs.InRow.{covered_is_in_row}
use Rattle.cover_law.proofs.OneRows.{rows_are_one}
use Rattle.cover_law.proofs.RoundedBorders.{borders_are_one, rounded_are_borders, step_of}
use Rattle.cover_law.proofs.RowLayers.{rows_tell}

-- ---- the edges are noded
from_step : (segments : List Seg) (e : Edge) (step : Pt × Pt) → StepOf segments segments step → ((step.0 ≡ e.p) × (step.1 ≡ e.q)) ⊎ ((step.0 ≡ e.q) × (step.1 ≡ e.p)) → FromRoute segments segments e
from_step segments e step h j = record {
  s = h.s;
  inside = h.inside;
  route = h.route;
  is_route = h.is_route;
  next = ⊎_elim
      (λ (p, q). inl (subst (λ (w : Pt). AreNext h.route w e.q) p (subst (λ (w : Pt). AreNext h.route step.0 w) q h.next)))
      (λ (p, q). inr (subst (λ (w : Pt). AreNext h.route w e.p) p (subst (λ (w : Pt). AreNext h.route step.0 w) q h.next)))
      j;
}

module _ (count : ℕ) (segments : List Seg) (owners : List ℕ) (bs : List Bordered) (R : AreBordered count segments owners bs) where
  rounded : (e : Edge) → Contains (edges_in bs) e → IsRoundedEdge (Among segments) e.p e.q
  rounded e i =
      let m = in_map edge_in bs e (contains_in (edges_in bs) e i) in
      let s = some_passes (joins m.0.edge) (flat_map neighbours R.routes) ((R.exact m.0).0 (in_contains bs m.0 m.1)).1 in
      subst (λ (f : Edge). IsRoundedEdge (Among segments) f.p f.q) m.2
      (rounded_from segments m.0.edge (from_step segments m.0.edge s.0 (step_of segments R.are_routes s.0 s.1) (joined m.0.edge s.0 s.2)))

  pub bordered_noded : IsNoded (edges_in bs)
  bordered_noded e f i j d z o o' =
      let h = rounded_edges_noded (Among segments) (all_proper segments) e.p e.q f.p f.q z (rounded e i) (rounded f j)
      (λ (p, q). d (edge_path e f p q)) (λ (p, q). not_turned e f p q) o o' in
      (end_of e z h.o h.end_of_first h.is, end_of f z h.o h.end_of_second h.is)

-- ---- one list of faces
pub faces_are_one : FacesAreOne
faces_are_one features rows others h k = rows_are_one (length features) k.edges rows others (subst (λ (bs : List Bordered). AreRows (length features) bs rows) edges h.are_rows) k.are_rows
  where
    segments : h.segments ≡ k.segments
    segments = same_segments h.segments k.segments (h.are_segments.parts_are ∙ sym k.are_segments.parts_are)

    owners : h.owners ≡ k.owners
    owners = h.are_segments.owners_are ∙ sym k.are_segments.owners_are

    edges : h.edges ≡ k.edges
    edges = borders_are_one (length features) k.segments k.owners h.edges k.edges
        (subst (λ (x : List Seg × List ℕ). AreBordered (length features) x.0 x.1 h.edges) (λ i. (segments i, owners i)) h.are_bordered) k.are_bordered

-- ---- what covers a point
pub faces_tell : FacesTell
faces_tell features rows faces limits =
    let count = length features in
    let borders : AreBorders faces.edges = rounded_are_borders count faces.segments faces.owners faces.edges faces.are_bordered limits
    (λ f l. features_of_rings_close features faces.segments faces.owners faces.are_segments f)
    (bordered_noded count faces.segments faces.owners faces.edges faces.are_bordered) in
    record {
      borders = borders;
      inside = λ row i z. rows_tell count faces.edges borders row (faces.are_rows.only row i) z;
      somewhere = λ z n. covered_is_in_row count faces.edges borders rows faces.are_rows z n;
    }
