-- Along a sweep: the edge beside each has its numbers when it is needed, and at the end each edge has.
use Rattle.std.proofs.Common.{◌≡◌, ℕ, ◌+◌, ◌<◌, ◌≤◌, List, refl, sym, ap, ◌∙◌, arith, subst, ⊎_elim, length, get_or, Some, None}
use Rattle.std.specs.Prelude.{IfSome, Option, slice_get}
use Rattle.std.specs.List.{All, Contains}
use Rattle.std.proofs.lemmas.List.{get_or-map, get_or_default, length-map}
use Rattle.std.proofs.lemmas.Option.{get_or_from_slice_get, slice_get_within}
use Rattle.geom.specs.declared.edge.Edge.{Edge}
use Rattle.geom.specs.ResultEdges.{left_side, right_side}
use Rattle.label_sweep.specs.declared.swept.SweptEdge.{SweptEdge}
use Rattle.label_sweep.specs.Swept.{AreSwept, IsBeside}
use Rattle.cover_law.specs.Cover.{Bordered, cover, edge_in, edges_in}
use Rattle.cover_sets.specs.Covers.{AreCovers}
use Rattle.cover_sets.specs.Sets.{AreSets, IsListed}
use Rattle.cover_sets.specs.Visited.{IsBesideVisited, IsVisited}
use Rattle.cover_sets.proofs.BorderLists.{unequal}
use Rattle.cover_sets.proofs.SweptOrder.{StandsBefore, beside_before, has_place}

contained : (edges : List Bordered) (k : ℕ) (b : Bordered) → slice_get edges k ≡ Some b → Contains (edges_in edges) b.edge
contained edges k b h = let l = slice_get_within edges k b h in
    (k, (let m = length-map edges edge_in in omega arith), get_or-map edge_in edges k b b.edge l ∙ ap (λ (x : Bordered). x.edge) (get_or_from_slice_get edges k b b h))

module _ (fs : List ℕ) (edges : List Bordered) (swept : List SweptEdge) (h : AreSwept (edges_in edges) swept) where
  abbrev Visited : List (List ℕ) → List ℕ → List ℕ → ℕ → Type 0
  Visited S L R i = (j : ℕ) (d : SweptEdge) → j < i → IsVisited fs edges S L R (get_or swept j d).edge

  there_in : (i : ℕ) (d : SweptEdge) (o : Option Edge) → ((f : Edge) → o ≡ Some f → Contains (edges_in edges) f × StandsBefore swept i d f) → IfSome o (λ f. Contains (edges_in edges) f)
  there_in i d None k = tt
  there_in i d (Some f) k = (k f refl).0

  visited_in : (S : List (List ℕ)) (L R : List ℕ) (i : ℕ) (d : SweptEdge) → Visited S L R i → (o : Option Edge)
      → ((f : Edge) → o ≡ Some f → Contains (edges_in edges) f × StandsBefore swept i d f) → IsBesideVisited fs edges S L R o
  visited_in S L R i d v None k = tt
  visited_in S L R i d v (Some f) k = let p = (k f refl).1 in subst (IsVisited fs edges S L R) p.2 (v p.0 d p.1)

  module _ (i : ℕ) (one : SweptEdge) (l : i < length swept) (is : one ≡ get_or swept i one) where
    at_place : (f : Edge) → one.beside ≡ Some f → Contains (edges_in edges) f × StandsBefore swept i one f
    at_place f e = beside_before (edges_in edges) swept h i one l f (ap (λ (s : SweptEdge). s.beside) (sym is) ∙ e)

    pub one_beside : IsBeside (edges_in edges) one
    one_beside = subst (IsBeside (edges_in edges)) (sym is) (h.each i one l)

    pub beside_there : IfSome one.beside (λ f. Contains (edges_in edges) f)
    beside_there = there_in i one one.beside at_place

    pub beside_visited : (S : List (List ℕ)) (L R : List ℕ) → Visited S L R i → IsBesideVisited fs edges S L R one.beside
    beside_visited S L R v = visited_in S L R i one v one.beside at_place

    pub one_more : (S T : List (List ℕ)) (L R M Q : List ℕ) → Visited S L R i → ((e : Edge) → IsVisited fs edges S L R e → IsVisited fs edges T M Q e) → IsVisited fs edges T M Q one.edge → Visited T M Q (i + 1)
    one_more S T L R M Q v kept new j d m = ⊎_elim
        (λ e. subst (λ (s : SweptEdge). IsVisited fs edges T M Q s.edge) (is ∙ get_or_default swept i one d l ∙ ap (λ (k : ℕ). get_or swept k d) (sym e)) new)
        (λ o. ⊎_elim (λ a. kept (get_or swept j d).edge (v j d a)) (λ a. absurd (omega arith)) o) (unequal j i)

  module _ (S : List (List ℕ)) (L R : List ℕ) (i : ℕ) (all : length swept ≤ i) (v : Visited S L R i) where
    visited_edge : (k : ℕ) (b : Bordered) → slice_get edges k ≡ Some b → IsVisited fs edges S L R b.edge
    visited_edge k b g =
        let d : SweptEdge = record { edge = b.edge; beside = None } in
        let p = has_place (edges_in edges) swept h d b.edge (contained edges k b g) in
        subst (IsVisited fs edges S L R) p.2 (v p.0 d (let l = p.1 in omega arith))

    pub are_covers : AreSets S → length L ≡ length edges → length R ≡ length edges → (count : ℕ) → All (λ f. f < count) fs → AreCovers count edges S L R
    are_covers sets left right count below = record {
      are_sets = sets;
      left_is = record {
        one_each = left;
        each = λ k b n g m. subst (IsListed S (cover count edges (left_side b.edge.p b.edge.q))) (get_or_from_slice_get L k n 0 m) ((visited_edge k b g).left_is count below k b g refl);
      };
      right_is = record {
        one_each = right;
        each = λ k b n g m. subst (IsListed S (cover count edges (right_side b.edge.p b.edge.q))) (get_or_from_slice_get R k n 0 m) ((visited_edge k b g).right_is count below k b g refl);
      };
    }
