-- The points of which an operation holds are those of a layer: so points in the polygons of a result are told by what covers them.
use Rattle.std.proofs.Common.{◌≡◌, ℕ, List, Bool, false, not, sym, ap, ◌∙◌, arith, subst}
use Rattle.std.specs.List.{Contains}
use Rattle.std.specs.Prelude.{◌&&◌, ◌||◌}
use Rattle.geom.specs.declared.point.Pt.{Pt}
use Rattle.geom.specs.declared.op.Op.{Op}
use Rattle.geom.specs.declared.op.Op.TheVariants.{Union}
use Rattle.geom.specs.declared.segment.Source.TheVariants.{A, B}
use Rattle.geom.specs.declared.edge.Edge.{Edge}
use Rattle.geom.specs.declared.edge.Counted.{Counted}
use Rattle.geom.specs.declared.directed.DirectedEdge.{DirectedEdge}
use Rattle.geom.specs.Directed.{IsResultEdge}
use Rattle.geom.specs.Parity as geom
use Rattle.geom.specs.Pixel.{Point}
use Rattle.geom.specs.ResultEdges.{holds_at, is_result_edge, left_side, right_side}
use Rattle.geom.specs.Rounded.{edges_of, odd_edges}
use Rattle.points_law.specs.Law.{AreLayers}
use Rattle.points_law.proofs.Choices.{◌⊕◌, parity}
use Rattle.points_law.proofs.TextParity.{text_has_parity}
use Rattle.cover_law.specs.Cover.{AreBorders, Bordered, edges_in}
use Rattle.cover_law.proofs.Projected.{chosen_parity, no_parity, project, project_edges, project_layers}
use Rattle.cover_law.proofs.Told.{Told}
use Rattle.covered.specs.Covered.{IsCoveredEdge, bounds_covered, holds_covered}
use Rattle.covered.specs.Laws.{CoveredIsLayer, CoveredTells, IsLayerOf}
use Rattle.covered.proofs.Coverage.{holding}

either_none : (a b : Bool) → b ≡ false → a || b ≡ a
either_none a b h = grind arith

no_more : (p : Bool) → false ⊕ p ≡ p
no_more p = grind arith

module _ (op : Op) (split count : ℕ) (bs : List Bordered) (h : AreBorders bs) where
  told : Told (edges_in bs) false (holds_covered op split count bs)
  told = holding op split count bs h

  cs : List Counted
  cs = project told.choice bs

  points : (z : Point) → holds_at Union cs z ≡ holds_covered op split count bs z
  unfolding cs
  points z =
      either_none (geom.parity (odd_edges A cs) z) (geom.parity (odd_edges B cs) z) (no_parity told.choice bs z)
      ∙ chosen_parity told.choice bs z
      ∙ sym (told.told z ∙ no_more (parity told.choice (edges_in bs) z))

  edges_are : edges_of cs ≡ edges_in bs
  unfolding cs
  edges_are = project_edges told.choice bs

  layers : AreLayers cs
  unfolding cs
  layers = project_layers told.choice bs h told.even

  bounds_are : (u v : Pt) → is_result_edge Union cs u v ≡ bounds_covered op split count bs u v
  bounds_are u v = ap (λ (t : Bool). t && not (holds_at Union cs (right_side u v))) (points (left_side u v))
      ∙ ap (λ (t : Bool). holds_covered op split count bs (left_side u v) && not t) (points (right_side u v))

  to_result : (d : DirectedEdge) → IsCoveredEdge op split count bs d → IsResultEdge Union cs d
  to_result d r = record { edge = r.edge; rounded = subst (λ (es : List Edge). Contains es r.edge) (sym edges_are) r.rounded; runs = r.runs; bounds = bounds_are d.from d.to ∙ r.bounds }

  from_result : (d : DirectedEdge) → IsResultEdge Union cs d → IsCoveredEdge op split count bs d
  from_result d r = record { edge = r.edge; rounded = subst (λ (es : List Edge). Contains es r.edge) edges_are r.rounded; runs = r.runs; bounds = sym (bounds_are d.from d.to) ∙ r.bounds }

  pub layer_of_result : (counted : List Counted) × IsLayerOf op split count bs counted
  layer_of_result = (
    cs,
    record {
      layers = layers;
      edges_are = edges_are;
      points = points;
      directed = λ ds. (
        (λ r. record { ascending = r.ascending; exact = λ d. ((λ i. to_result d ((r.exact d).0 i)), (λ k. (r.exact d).1 (from_result d k))) }),
        (λ r. record { ascending = r.ascending; exact = λ d. ((λ i. from_result d ((r.exact d).0 i)), (λ k. (r.exact d).1 (to_result d k))) }),
      );
    },
  )

pub covered_is_layer : CoveredIsLayer
covered_is_layer op split count bs h = layer_of_result op split count bs h

pub covered_tells : CoveredTells
covered_tells op split count bs h directed are polygons each z =
    let l = layer_of_result op split count bs h in
    text_has_parity Union l.0 l.1.layers directed ((l.1.directed directed).0 are) polygons each z ∙ l.1.points z
