-- The polygons that were found strip by strip, and those of the edges that are left.
use Rattle.std.proofs.Common.{◌≡◌, ◌⊎◌, inl, inr, List, [], ◌∷◌, ◌++◌, refl, subst, ⊎_elim, arith}
use Rattle.std.specs.Prelude.{Contains}
use Rattle.std.proofs.lemmas.List.Elements.{Contains-append_cases, Contains-append_left, Contains-append_right}
use Rattle.std.proofs.lemmas.List.Sorted.{IsPermutation-refl}
use Rattle.geom.specs.declared.directed.DirectedEdge.{DirectedEdge}
use Rattle.geom.specs.Canonical.{ArePolygons, Shape}
use Rattle.geom.proofs.ListOrder.{list_before_itself, list_before_trans, same_ascending}
use Rattle.geom.proofs.Lists.{In, contains_in, in_contains}
use Rattle.parts_law.specs.Law.{AreTogether}
use Rattle.strip_polygons.specs.Strips.{AreCompletedBy, AreInOrder}
use Rattle.strip_polygons.proofs.StripsLists.{HasShellBefore, Kept, kept, one_of_shell, shell_in_or_not}

-- at first all edges are left
pub none_found : (directed : List DirectedEdge) → AreCompletedBy directed [] directed
none_found directed rest all are together = subst (ArePolygons directed) one are
  where
    in_all : (p : Shape) → Contains rest p → Contains all p
    in_all p i = (together.exact p).1 (inr i)

    in_rest : (p : Shape) → Contains all p → Contains rest p
    in_rest p i = ⊎_elim (λ (j : Contains [] p). absurd (contains_in [] p j)) (λ (j : Contains rest p). j) ((together.exact p).0 i)

    one : rest ≡ all
    one = same_ascending HasShellBefore (λ p. list_before_itself p.shell) (λ p q r. list_before_trans p.shell q.shell r.shell)
        rest all are.ascending together.ascending in_all in_rest

-- ---- of polygons that are together, those of the second part of the first list and of the second list
module _ (before found rest all : List Shape) (together : AreTogether (before ++ found) rest all) where
  in_all : (p : Shape) → Contains found p ⊎ Contains rest p → Contains all p
  in_all p o = ⊎_elim (λ (i : Contains found p). (together.exact p).1 (inl (Contains-append_right before found p i)))
      (λ (i : Contains rest p). (together.exact p).1 (inr i)) o

  new_or_not : (p : Shape) → In p all → (Contains found p ⊎ Contains rest p) ⊎ (¬ (Contains found p ⊎ Contains rest p))
  new_or_not p i = ⊎_elim
      (λ (s : (q : Shape) × In q (found ++ rest) × (q.shell ≡ p.shell)).
      let o : Contains found s.0 ⊎ Contains rest s.0 = Contains-append_cases found rest s.0 (in_contains (found ++ rest) s.0 s.1) in
      let e : s.0 ≡ p = one_of_shell all together.ascending s.0 p (contains_in all s.0 (in_all s.0 o)) i s.2 in
      inl (subst (λ (q : Shape). Contains found q ⊎ Contains rest q) e o))
      (λ (n : (q : Shape) → In q (found ++ rest) → ¬ (q.shell ≡ p.shell)).
      inr (λ o. n p (contains_in (found ++ rest) p
      (⊎_elim (λ (j : Contains found p). Contains-append_left found rest p j) (λ (j : Contains rest p). Contains-append_right found rest p j) o)) refl))
      (shell_in_or_not (found ++ rest) p)

  abbrev news : Kept HasShellBefore (λ p. Contains found p ⊎ Contains rest p) (λ p. ¬ (Contains found p ⊎ Contains rest p)) all
  news = kept HasShellBefore (λ p. Contains found p ⊎ Contains rest p) (λ p. ¬ (Contains found p ⊎ Contains rest p)) all together.ascending new_or_not

  pub middle : List Shape
  middle = news.list

  in_middle : (p : Shape) → Contains found p ⊎ Contains rest p → Contains middle p
  unfolding middle
  in_middle p o = ⊎_elim (λ (i : In p news.list). in_contains news.list p i) (λ n. absurd (n o)) (news.each p (contains_in all p (in_all p o)))

  pub later_together : AreTogether found rest middle
  unfolding middle
  later_together = record {
    ascending = news.ascending;
    exact = λ p. ((λ i. (news.only p (contains_in news.list p i)).1), in_middle p);
  }

  pub all_together : AreTogether before middle all
  unfolding middle
  all_together = record {
    ascending = together.ascending;
    exact = λ p. (
      (λ i. ⊎_elim
          (λ (j : Contains (before ++ found) p). ⊎_elim (λ (k : Contains before p). inl k) (λ (k : Contains found p). inr (in_middle p (inl k)))
          (Contains-append_cases before found p j))
          (λ (j : Contains rest p). inr (in_middle p (inr j)))
          ((together.exact p).0 i)),
      (λ o. ⊎_elim (λ (j : Contains before p). (together.exact p).1 (inl (Contains-append_left before found p j)))
          (λ (j : Contains middle p). in_contains all p (news.only p (contains_in news.list p j)).0) o),
    );
  }

-- where the polygons of what is left are those found now and those of the others, the others complete all found
pub more_found : (directed left closed others : List DirectedEdge) (before found : List Shape) → AreCompletedBy directed before left
    → ((first second all : List Shape) → ArePolygons closed first → ArePolygons others second → AreTogether first second all → ArePolygons left all)
    → ArePolygons closed found → AreCompletedBy directed (before ++ found) others
more_found directed left closed others before found completed law are rest all others_are together =
    completed (middle before found rest all together) all
    (law found rest (middle before found rest all together) are others_are (later_together before found rest all together))
    (all_together before found rest all together)

-- ---- where nothing is left
no_polygons : (left : List DirectedEdge) → ((d : DirectedEdge) → ¬ (Contains left d)) → ArePolygons left []
no_polygons [] none = record {
  rings = [];
  are_rings = record {
    follow = λ k d l. absurd (omega arith);
    together = IsPermutation-refl [];
    least = λ k d l. absurd (omega arith);
    ascending = λ i j d a b. absurd (omega arith);
  };
  ascending = λ i j d a b. absurd (omega arith);
  only = λ p i. absurd (contains_in [] p i);
  each = λ ring i s. absurd (contains_in [] ring i);
}
no_polygons (d ∷ ds) none = absurd (none d (in_contains (d ∷ ds) d (inl refl)))

pub all_found : (directed left : List DirectedEdge) (polygons : List Shape) → ((d : DirectedEdge) → ¬ (Contains left d))
    → AreCompletedBy directed polygons left → (all : List Shape) → AreInOrder polygons all → ArePolygons directed all
all_found directed left polygons none completed all order = completed [] all (no_polygons left none) (record {
  ascending = order.ascending;
  exact = λ p. (
    (λ i. inl ((order.exact p).0 i)),
    (λ o. ⊎_elim (λ (i : Contains polygons p). (order.exact p).1 i) (λ (i : Contains [] p). absurd (contains_in [] p i)) o),
  );
})
