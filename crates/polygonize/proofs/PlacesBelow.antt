-- The places of edges below vertices, by the gaps to them.
use Rattle.std.proofs.Common.{◌≡◌, ℕ, zero, suc, List, [], ◌∷◌, length, map, refl, sym, ◌∙◌, subst}
use Rattle.std.proofs.lemmas.List.{length-map}
use Rattle.std.specs.Prelude.{Option, Some, None, slice_index_or}
use Rattle.geom.specs.declared.directed.DirectedEdge.{DirectedEdge}
use Rattle.geom.specs.declared.point.Pt.{Pt}
use Rattle.polygonize.specs.declared.below.Gap.{Gap}
use Rattle.polygonize.specs.Below.{AreEdgesBelow, AreGapsBelow, IsEdgeBelow, IsFoundBelow, best_at, place_of, vertex_at}

same_length : (gaps : List (Option Gap)) → length (map place_of gaps) ≡ length gaps
same_length gaps = length-map gaps place_of

one : (ds : List DirectedEdge) (v : Pt) (best : Option Gap) → IsFoundBelow ds v best → IsEdgeBelow ds v (place_of best)
one ds v None h = h
one ds v (Some g) h = h

place_at : (gaps : List (Option Gap)) (r : ℕ) → slice_index_or (map place_of gaps) r None ≡ place_of (best_at gaps r)
place_at [] r = refl
place_at (g ∷ gaps) zero = refl
place_at (g ∷ gaps) (suc r) = place_at gaps r

pub places_below : (ds : List DirectedEdge) (vertices : List Pt) (gaps : List (Option Gap)) → AreGapsBelow ds vertices gaps → AreEdgesBelow ds vertices (map place_of gaps)
places_below ds vertices gaps h = record {
  same_length = same_length gaps ∙ h.same_length;
  each = λ r below. subst (λ t. IsEdgeBelow ds (vertex_at vertices r) t) (sym (place_at gaps r)) (one ds (vertex_at vertices r) (best_at gaps r) (h.each r below));
}
