-- Rings begun at their least number, and how they are added to the written ones.
use Rattle.std.proofs.Common.{◌≡◌, ℕ, ◌≤◌, List, [], ◌∷◌, ◌++◌, length, map, sym, ◌∙◌, ap, subst, append_assoc}
use Rattle.std.specs.Prelude.{All, IsPermutation, flat_map}
use Rattle.std.proofs.lemmas.List.{map-append, append-nil}
use Rattle.std.proofs.lemmas.List.Elements.{All-nil, All-cons, All-head, All-tail}
use Rattle.std.proofs.lemmas.List.Sorted.{IsPermutation-refl, IsPermutation-trans, IsPermutation-append, IsPermutation-append_comm, All-permutation, length_permutation}
use Rattle.geom.specs.declared.directed.DirectedEdge.{DirectedEdge}
use Rattle.geom.specs.Rings.{ring_edges}
use Rattle.geom.proofs.RingEdges.{same_order, rotated_edges}
use Rattle.polygonize.specs.Next.{edge_at, ring_of}
use Rattle.polygonize.specs.Number.{IsVertex}
use Rattle.polygonize.specs.Placed.{PlacedRing, rings_in}
use Rattle.polygonize.specs.Written.{IsTurned, AreTurned, IsSound, IsCanonical, backward}
use Rattle.polygonize.proofs.Permuted.{all_pairs_permutation}

-- ---- one ring
pub turned_permutation : (ring turned : List ℕ) → IsTurned ring turned → IsPermutation ring turned
turned_permutation ring turned t = IsPermutation-trans _ _ _ (same_order ring (t.front ++ t.back) t.was) (IsPermutation-trans _ _ _ (IsPermutation-append_comm t.front t.back) (same_order (t.back ++ t.front) turned (sym t.is)))

pub turned_length : (ring turned : List ℕ) → IsTurned ring turned → length turned ≡ length ring
turned_length ring turned t = length_permutation ring turned (turned_permutation ring turned t)

pub turned_sound : (ds : List DirectedEdge) (ring turned : List ℕ) → IsTurned ring turned → IsSound ds ring → IsSound ds turned
turned_sound ds ring turned t s = record {
  long = let P : ℕ → Type 0 = λ n. 3 ≤ n in subst P (sym (turned_length ring turned t)) s.long;
  simple = all_pairs_permutation (λ p q. ¬ (p ≡ q)) (λ x y n e. n (sym e)) ring turned (turned_permutation ring turned t) s.simple;
  vertices = All-permutation (IsVertex ds) ring turned (turned_permutation ring turned t) s.vertices;
}

pub turned_edges : (ds : List DirectedEdge) (ring turned : List ℕ) → IsTurned ring turned → IsPermutation (ring_edges (ring_of ds ring)) (ring_edges (ring_of ds turned))
turned_edges ds ring turned t = rotated_edges (ring_of ds ring) (ring_of ds turned) (record {
  front = ring_of ds t.front;
  back = ring_of ds t.back;
  was = ap (ring_of ds) t.was ∙ map-append (λ i. (edge_at ds i).from) t.front t.back;
  is = ap (ring_of ds) t.is ∙ map-append (λ i. (edge_at ds i).from) t.back t.front;
})

-- ---- several
pub turned_all_sound : (ds : List DirectedEdge) (pieces turned : List (List ℕ)) → AreTurned pieces turned → All (IsSound ds) pieces → All (IsCanonical ds) turned
turned_all_sound ds [] [] t h = All-nil (IsCanonical ds)
turned_all_sound ds [] (w ∷ ws) t h = absurd t
turned_all_sound ds (p ∷ ps) [] t h = absurd t
turned_all_sound ds (p ∷ ps) (w ∷ ws) t h = All-cons (IsCanonical ds) w ws (record { sound = turned_sound ds p w t.0 (All-head (IsSound ds) p ps h); least = t.0.least }) (turned_all_sound ds ps ws t.1 (All-tail (IsSound ds) p ps h))

abbrev pub edges_in : List DirectedEdge → List (List ℕ) → List DirectedEdge
edges_in ds rings = flat_map ring_edges (map (ring_of ds) rings)

pub turned_all_edges : (ds : List DirectedEdge) (pieces turned : List (List ℕ)) → AreTurned pieces turned → IsPermutation (edges_in ds pieces) (edges_in ds turned)
turned_all_edges ds [] [] t = IsPermutation-refl []
turned_all_edges ds [] (w ∷ ws) t = absurd t
turned_all_edges ds (p ∷ ps) [] t = absurd t
turned_all_edges ds (p ∷ ps) (w ∷ ws) t = IsPermutation-append (ring_edges (ring_of ds p)) (ring_edges (ring_of ds w)) (edges_in ds ps) (edges_in ds ws) (turned_edges ds p w t.0) (turned_all_edges ds ps ws t.1)

-- ---- the pieces of a ring, taken from the end, and written at the end
pub record Adding (pieces left old new : List (List ℕ)) : Type 0 where
  pub done : List (List ℕ)
  pub turned : List (List ℕ)
  pub parts : pieces ≡ left ++ done
  pub each : AreTurned done turned
  pub appended : new ≡ old ++ backward turned

pub none_added : (pieces old : List (List ℕ)) → Adding pieces pieces old old
none_added pieces old = record { done = []; turned = []; parts = sym (append-nil pieces); each = tt; appended = sym (append-nil old) }

pub one_added : (pieces left rest old new : List (List ℕ)) (piece turned : List ℕ) → left ≡ rest ++ piece ∷ [] → IsTurned piece turned → Adding pieces left old new → Adding pieces rest old (new ++ turned ∷ [])
one_added pieces left rest old new piece turned e t a = record {
  done = piece ∷ a.done;
  turned = turned ∷ a.turned;
  parts = a.parts ∙ ap (λ x. x ++ a.done) e ∙ append_assoc rest (piece ∷ []) a.done;
  each = (t, a.each);
  appended = ap (λ x. x ++ turned ∷ []) a.appended ∙ append_assoc old (backward a.turned) (turned ∷ []);
}

pub step_added : (pieces left rest : List (List ℕ)) (piece : List ℕ) (old : List (List ℕ)) (new more : List PlacedRing) (w : PlacedRing) → left ≡ rest ++ piece ∷ [] → more ≡ new ++ w ∷ [] → IsTurned piece w.ring
    → Adding pieces left old (rings_in new) → Adding pieces rest old (rings_in more)
step_added pieces left rest piece old new more w e q t a = let P : List (List ℕ) → Type 0 = Adding pieces rest old in subst P (sym (ap rings_in q ∙ map-append (λ x. x.ring) new (w ∷ [])))
    (one_added pieces left rest old (rings_in new) piece w.ring e t a)
