-- The list of the ends of edges, as it grows and after the sort.
use Rattle.std.proofs.Common.{ℕ, ◌+◌, ◌<◌, List, [], ◌∷◌, ◌++◌, length, get_or, sym, ◌∙◌, subst, inl, inr, arith}
use Rattle.std.specs.Prelude.{All, Contains, IsSortedBy, IsPermutation}
use Rattle.std.specs.Cmp.{IsStrictWeakOrder}
use Rattle.std.proofs.lemmas.Bool.{cases_eq, false≢true}
use Rattle.std.proofs.lemmas.List.Elements.{All-nil, All-push, All-weaker, Contains-append_left, Contains-push}
use Rattle.std.proofs.lemmas.List.Quantifiers.{all_pairs_push}
use Rattle.std.proofs.lemmas.List.Sorted.{All-permutation, Contains-permutation}
use Rattle.geom.specs.declared.directed.DirectedEdge.{DirectedEdge}
use Rattle.polygonize.specs.declared.closing.EdgeEnd.{EdgeEnd}
use Rattle.polygonize.specs.Closing.{AreBothEnds, AreSortedEnds, IsArriving, IsEndOf, IsOtherEnd, IsStarting, is_sooner_end}
use Rattle.polygonize.specs.Next.{edge_at}
use Rattle.polygonize.proofs.NextEdge.Sooner.{leaving_order}
use Rattle.polygonize.proofs.Permuted.{all_pairs_permutation}

-- ---- as it grows
pub no_ends : (ds : List DirectedEdge) → AreBothEnds ds 0 []
no_ends ds = record {
  genuine = All-nil (IsEndOf ds);
  inside = All-nil (λ e. e.way.place < 0);
  starts = λ k h. absurd (omega arith);
  arrives = λ k h. absurd (omega arith);
  once = λ i j d l h. absurd (omega arith);
}

module _ (ds : List DirectedEdge) (n : ℕ) (ends : List EdgeEnd) (s t : EdgeEnd) (starts : IsStarting (edge_at ds n) n s) (arrives : IsArriving (edge_at ds n) n t) (h : AreBothEnds ds n ends) where
  abbrev first : List EdgeEnd
  first = ends ++ s ∷ []

  abbrev all : List EdgeEnd
  all = first ++ t ∷ []

  start_is : IsEndOf ds s
  start_is = let P : ℕ → Type 0 = λ k. IsStarting (edge_at ds k) k s in inl (subst P (sym starts.place_is) starts)

  stop_is : IsEndOf ds t
  stop_is = let P : ℕ → Type 0 = λ k. IsArriving (edge_at ds k) k t in inr (subst P (sym arrives.place_is) arrives)

  earlier : All (λ e. e.way.place < n + 1) ends
  earlier = All-weaker (λ e. e.way.place < n) (λ e. e.way.place < n + 1) (λ e l. omega arith) ends h.inside

  start_in : s.way.place < n + 1
  start_in = let e = starts.place_is in omega (arith, e)

  stop_in : t.way.place < n + 1
  stop_in = let e = arrives.place_is in omega (arith, e)

  start_apart : (k : ℕ) (d : EdgeEnd) → k < length ends → IsOtherEnd (get_or ends k d) s
  start_apart k d l e = absurd (let p = starts.place_is in let q = h.inside k d l in omega (arith, e, p, q))

  stop_apart : (k : ℕ) (d : EdgeEnd) → k < length first → IsOtherEnd (get_or first k d) t
  stop_apart = All-push (λ e. IsOtherEnd e t) ends s (λ k d l e. absurd (let p = arrives.place_is in let q = h.inside k d l in omega (arith, e, p, q)))
      (λ e f. false≢true (sym arrives.leaves_is ∙ sym f ∙ starts.leaves_is))

  wider : (e : EdgeEnd) → Contains ends e → Contains all e
  wider e c = Contains-append_left first (t ∷ []) e (Contains-append_left ends (s ∷ []) e c)

  pub more_ends : AreBothEnds ds (n + 1) all
  more_ends = record {
    genuine = All-push (IsEndOf ds) first t (All-push (IsEndOf ds) ends s h.genuine start_is) stop_is;
    inside = All-push (λ e. e.way.place < n + 1) first t (All-push (λ e. e.way.place < n + 1) ends s earlier start_in) stop_in;
    starts = λ k l. elim (cases_eq k n) [
      | inl e ↦ (let P : ℕ → Type 0 = λ j. (e : EdgeEnd) × Contains all e × IsStarting (edge_at ds j) j e in subst P (sym e) (s, Contains-append_left first (t ∷ []) s (Contains-push ends s), starts))
      | inr o ↦ (let f = h.starts k (omega arith) in (f.0, wider f.0 f.1, f.2))
    ];
    arrives = λ k l. elim (cases_eq k n) [
      | inl e ↦ (let P : ℕ → Type 0 = λ j. (e : EdgeEnd) × Contains all e × IsArriving (edge_at ds j) j e in subst P (sym e) (t, Contains-push first t, arrives))
      | inr o ↦ (let f = h.arrives k (omega arith) in (f.0, wider f.0 f.1, f.2))
    ];
    once = all_pairs_push IsOtherEnd first t (all_pairs_push IsOtherEnd ends s h.once start_apart) stop_apart;
  }

-- ---- after the sort
pub ends_order : IsStrictWeakOrder is_sooner_end
ends_order = record { one_way = λ s t. leaving_order.one_way s.way t.way; chain = λ s t u. leaving_order.chain s.way t.way u.way }

flip : (s t : EdgeEnd) → IsOtherEnd s t → IsOtherEnd t s
flip s t o e f = o (sym e) (sym f)

pub sorted_both : (ds : List DirectedEdge) (ends sorted : List EdgeEnd) → AreBothEnds ds (length ds) ends → IsPermutation ends sorted → IsSortedBy is_sooner_end sorted → AreSortedEnds ds sorted
sorted_both ds ends sorted h p s = record {
  both = record {
    genuine = All-permutation (IsEndOf ds) ends sorted p h.genuine;
    inside = All-permutation (λ e. e.way.place < length ds) ends sorted p h.inside;
    starts = λ k l. (let f = h.starts k l in (f.0, Contains-permutation ends sorted f.0 p f.1, f.2));
    arrives = λ k l. (let f = h.arrives k l in (f.0, Contains-permutation ends sorted f.0 p f.1, f.2));
    once = all_pairs_permutation IsOtherEnd flip ends sorted p h.once;
  };
  sorted = s;
}
