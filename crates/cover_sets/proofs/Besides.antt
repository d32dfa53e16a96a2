-- What lies on the left of an edge of a sweep: the cover set on the right of the edge beside it.
use Rattle.std.proofs.Common.{◌≡◌, ℕ, List, [], ◌∷◌, Bool, false, cond, refl, sym, ap, ◌∙◌}
use Rattle.std.specs.Prelude.{Option, Some, None, filter}
use Rattle.geom.specs.declared.edge.Edge.{Edge}
use Rattle.geom.specs.declared.edge.Counted.{Counted}
use Rattle.geom.specs.declared.segment.Source.{Source}
use Rattle.geom.specs.declared.segment.Source.TheVariants.{A}
use Rattle.geom.specs.Parity.{parity}
use Rattle.geom.specs.Pixel.{Point}
use Rattle.geom.specs.ResultEdges.{left_side, right_side}
use Rattle.geom.specs.Rounded.{edges_of, odd_edges}
use Rattle.points_law.specs.Law.{AreLayers}
use Rattle.label_sweep.specs.declared.swept.SweptEdge.{SweptEdge}
use Rattle.label_sweep.specs.Swept.{IsBeside, parity_beside}
use Rattle.cover_law.specs.Cover.{AreBorders, Bordered, border, cover, edges_in, numbers_from}
use Rattle.cover_law.proofs.FeatureLayers.{feature_is_layer}
use Rattle.cover_sets.specs.Visited.{cover_beside}

filter_same : (p q : ℕ → Bool) → ((f : ℕ) → p f ≡ q f) → (xs : List ℕ) → filter p xs ≡ filter q xs
filter_same p q h [] = refl
filter_same p q h (x ∷ xs) = ap (λ (t : Bool). cond t (x ∷ filter p xs) (filter p xs)) (h x) ∙ ap (λ (ys : List ℕ). cond (q x) (x ∷ ys) ys) (filter_same p q h xs)

filter_none : (p : ℕ → Bool) → ((f : ℕ) → p f ≡ false) → (xs : List ℕ) → filter p xs ≡ []
filter_none p h [] = refl
filter_none p h (x ∷ xs) = ap (λ (t : Bool). cond t (x ∷ filter p xs) (filter p xs)) (h x) ∙ filter_none p h xs

module _ (count : ℕ) (edges : List Bordered) (borders : AreBorders edges) (z : Point) where
  beside : (o : Option Edge) → ((counted : List Counted) → AreLayers counted → edges_of counted ≡ edges_in edges → (layer : Source) → parity (odd_edges layer counted) z ≡ parity_beside layer counted o)
      → cover count edges z ≡ cover_beside count edges o
  beside None h = filter_none (λ f. parity (border f edges) z) (λ f. let l = feature_is_layer edges borders f in sym (l.1.points z) ∙ h l.0 l.1.layers l.1.edges_are A) (numbers_from 0 count)
  beside (Some e) h = filter_same (λ f. parity (border f edges) z) (λ f. parity (border f edges) (right_side e.p e.q))
      (λ f. let l = feature_is_layer edges borders f in sym (l.1.points z) ∙ h l.0 l.1.layers l.1.edges_are A ∙ l.1.points (right_side e.p e.q)) (numbers_from 0 count)

pub left_is_beside : (count : ℕ) (edges : List Bordered) → AreBorders edges → (s : SweptEdge) → IsBeside (edges_in edges) s → cover count edges (left_side s.edge.p s.edge.q) ≡ cover_beside count edges s.beside
left_is_beside count edges borders s h = beside count edges borders (left_side s.edge.p s.edge.q) s.beside h.left
