-- The points of a cover set are those of a layer: so points in the polygons of a row are told by their cover sets.
use Rattle.std.proofs.Common.{◌≡◌, ℕ, List, [], ◌∷◌, Bool, false, not, refl, sym, ap, ◌∙◌, arith, subst}
use Rattle.std.specs.List.{Contains}
use Rattle.std.specs.Prelude.{◌≢◌, ◌&&◌, ◌||◌}
use Rattle.geom.specs.declared.point.Pt.{Pt}
use Rattle.geom.specs.declared.op.Op.TheVariants.{Union}
use Rattle.geom.specs.declared.segment.Source.TheVariants.{A, B}
use Rattle.geom.specs.declared.edge.Edge.{Edge}
use Rattle.geom.specs.declared.edge.Counted.{Counted}
use Rattle.geom.specs.declared.directed.DirectedEdge.{DirectedEdge}
use Rattle.geom.specs.Directed.{IsResultEdge}
use Rattle.geom.specs.Parity as geom
use Rattle.geom.specs.Pixel.{Point}
use Rattle.geom.specs.ResultEdges.{holds_at, is_result_edge, left_side, right_side}
use Rattle.geom.specs.Rounded.{edges_of, odd_edges}
use Rattle.points_law.specs.Law.{AreLayers}
use Rattle.points_law.proofs.Choices.{◌⊕◌, parity}
use Rattle.points_law.proofs.TextParity.{text_has_parity}
use Rattle.cover_law.specs.Cover.{AreBorders, Bordered, edges_in, numbers_from}
use Rattle.cover_law.specs.Rows.{IsRowEdge, bounds_row, is_covered_by, same_list}
use Rattle.cover_law.specs.Laws.{IsLayerOf, RowIsLayer, RowsTell}
use Rattle.cover_law.proofs.Projected.{chosen_parity, no_parity, project, project_edges, project_layers}
use Rattle.cover_law.proofs.Told.{Told, are_just}

either_none : (a b : Bool) → b ≡ false → a || b ≡ a
either_none a b h = grind arith

not_empty : (set : List ℕ) → set ≢ [] → same_list [] set ≡ false
not_empty [] h = absurd (h refl)
not_empty (g ∷ gs) h = refl

no_more : (v p : Bool) → v ≡ false → v ⊕ p ≡ p
no_more v p h = grind arith

module _ (count : ℕ) (bs : List Bordered) (h : AreBorders bs) (set : List ℕ) (some : set ≢ []) where
  row : Told (edges_in bs) (same_list [] set) (is_covered_by count bs set)
  row = are_just bs h (numbers_from 0 count) set

  cs : List Counted
  cs = project row.choice bs

  points : (z : Point) → holds_at Union cs z ≡ is_covered_by count bs set z
  unfolding cs
  points z =
      either_none (geom.parity (odd_edges A cs) z) (geom.parity (odd_edges B cs) z) (no_parity row.choice bs z)
      ∙ chosen_parity row.choice bs z
      ∙ sym (row.told z ∙ no_more (same_list [] set) (parity row.choice (edges_in bs) z) (not_empty set some))

  edges_are : edges_of cs ≡ edges_in bs
  unfolding cs
  edges_are = project_edges row.choice bs

  layers : AreLayers cs
  unfolding cs
  layers = project_layers row.choice bs h row.even

  bounds_are : (u v : Pt) → is_result_edge Union cs u v ≡ bounds_row count bs set u v
  bounds_are u v = ap (λ (t : Bool). t && not (holds_at Union cs (right_side u v))) (points (left_side u v))
      ∙ ap (λ (t : Bool). is_covered_by count bs set (left_side u v) && not t) (points (right_side u v))

  to_result : (d : DirectedEdge) → IsRowEdge count bs set d → IsResultEdge Union cs d
  to_result d r = record { edge = r.edge; rounded = subst (λ (es : List Edge). Contains es r.edge) (sym edges_are) r.rounded; runs = r.runs; bounds = bounds_are d.from d.to ∙ r.bounds }

  from_result : (d : DirectedEdge) → IsResultEdge Union cs d → IsRowEdge count bs set d
  from_result d r = record { edge = r.edge; rounded = subst (λ (es : List Edge). Contains es r.edge) edges_are r.rounded; runs = r.runs; bounds = sym (bounds_are d.from d.to) ∙ r.bounds }

  pub layer_of_row : (counted : List Counted) × IsLayerOf count bs set counted
  layer_of_row = (
    cs,
    record {
      layers = layers;
      edges_are = edges_are;
      points = points;
      directed = λ ds r. record { ascending = r.ascending; exact = λ d. ((λ i. to_result d ((r.exact d).0 i)), (λ k. (r.exact d).1 (from_result d k))) };
      back = λ ds r. record { ascending = r.ascending; exact = λ d. ((λ i. from_result d ((r.exact d).0 i)), (λ k. (r.exact d).1 (to_result d k))) };
    },
  )

pub row_is_layer : RowIsLayer
row_is_layer count bs h set some = layer_of_row count bs h set some

pub rows_tell : RowsTell
rows_tell count bs h row r z =
    let l = layer_of_row count bs h row.set r.covered in
    text_has_parity Union l.0 l.1.layers r.directed (l.1.directed r.directed r.are_edges) row.polygons r.each_edge z ∙ l.1.points z
