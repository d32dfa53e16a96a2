-- Two ascending lists as one.
use Rattle.std.proofs.Common.{◌≡◌, inl, inr, Ordering, Less, Equal, Greater, ℕ, ◌+◌, ◌-◌, ◌<◌, ◌≤◌, ◌++◌, List, [], ◌∷◌, sym, ap, ◌∙◌, subst, arith, length, get_or, take, drop, ⊎_elim}
use Rattle.std.specs.Prelude.{Contains}
use Rattle.std.specs.Ordering.{MatchOrdering}
use Rattle.std.proofs.lemmas.Bool.{cases_lt}
use Rattle.std.proofs.lemmas.List.{get_or-drop, get_or_default, length-drop, take-append-drop, take_all, take_rest}
use Rattle.std.proofs.lemmas.List.Elements.{Contains-append_cases, Contains-append_left, Contains-append_right, Contains-get_or, Contains-push, Contains-push_cases}
use Rattle.std.proofs.lemmas.List.Quantifiers.{all_pairs_push}
use Rattle.geom.specs.declared.edge.Counted.{Counted}
use Rattle.geom.specs.declared.edge.Edge.{Edge}
use Rattle.geom.specs.EdgeOrder.{IsEdgeBefore}
use Rattle.geom.proofs.Orders.{edge_before_trans, edge_cmp, edge_ranks}
use Rattle.hot_region.proofs.ListLaws.{in_push, in_take_more, none_in}
use Rattle.linking.proofs.Counted.{pairs_append}
use Rattle.phases.specs.Merged.{AreAscending, AreMerged, AreOthers}

-- the list has the first i items of one list and the first k of another, in order, and all of it goes before what is left of both
pub record IsMergedTo (first second : List Counted) (i k : ℕ) (list : List Counted) : Type 0 where
  pub merged : AreMerged (take i first) (take k second) list
  pub before_first : (c : Counted) (n : ℕ) (d : Counted) → Contains list c → i ≤ n → n < length first → IsEdgeBefore c.edge (get_or first n d).edge
  pub before_second : (c : Counted) (n : ℕ) (d : Counted) → Contains list c → k ≤ n → n < length second → IsEdgeBefore c.edge (get_or second n d).edge

pub merged_none : (first second : List Counted) → IsMergedTo first second 0 0 []
merged_none first second = record {
  merged = record { ascending = λ i j d l m. absurd (omega (arith, m)); exact = λ c. (λ h. absurd (none_in c h), λ h. absurd (⊎_elim (none_in c) (none_in c) h)) };
  before_first = λ c n d h. absurd (none_in c h);
  before_second = λ c n d h. absurd (none_in c h);
}

-- what stands at a place goes before what stands behind it
later : (xs : List Counted) (k : ℕ) (x : Counted) → x ≡ get_or xs k x → AreAscending xs → (n : ℕ) (d : Counted) → k + 1 ≤ n → n < length xs → IsEdgeBefore x.edge (get_or xs n d).edge
later xs k x is up n d l m = subst (λ (y : Counted). IsEdgeBefore y.edge (get_or xs n d).edge) (get_or_default xs k d x (omega (arith, l, m)) ∙ sym is) (up k n d (omega (arith, l)) m)

module _ (first second : List Counted) (i k : ℕ) (list : List Counted) (h : IsMergedTo first second i k list) where
  -- the next one is of the first list
  pub merged_first : (x : Counted) → i < length first → x ≡ get_or first i x → AreAscending first → ((n : ℕ) (d : Counted) → k ≤ n → n < length second → IsEdgeBefore x.edge (get_or second n d).edge) → IsMergedTo first second (i + 1) k (list ++ x ∷ [])
  merged_first x inside is up behind = record {
    merged = record {
      ascending = all_pairs_push (λ c d. IsEdgeBefore c.edge d.edge) list x h.merged.ascending (λ n d l. before (get_or list n d) (Contains-get_or list n d l));
      exact = λ c. (
        λ m. ⊎_elim (λ a. ⊎_elim (λ b. inl ((in_take_more first i x inside is c).1 (inl b))) (λ b. inr b) ((h.merged.exact c).0 a)) (λ e. inl ((in_take_more first i x inside is c).1 (inr e))) (Contains-push_cases list x c m),
        λ m. ⊎_elim
            (λ a. ⊎_elim (λ b. in_push list c x ((h.merged.exact c).1 (inl b))) (λ e. subst (λ (y : Counted). Contains (list ++ x ∷ []) y) e (Contains-push list x)) ((in_take_more first i x inside is c).0 a))
            (λ b. in_push list c x ((h.merged.exact c).1 (inr b))) m,
      );
    };
    before_first = λ c n d m l r. ⊎_elim (λ a. h.before_first c n d a (omega (arith, l)) r) (λ e. subst (λ (y : Counted). IsEdgeBefore y.edge (get_or first n d).edge) e (later first i x is up n d l r)) (Contains-push_cases list x c m);
    before_second = λ c n d m l r. ⊎_elim (λ a. h.before_second c n d a l r) (λ e. subst (λ (y : Counted). IsEdgeBefore y.edge (get_or second n d).edge) e (behind n d l r)) (Contains-push_cases list x c m);
  }
    where
      before : (c : Counted) → Contains list c → IsEdgeBefore c.edge x.edge
      before c m = subst (λ (y : Counted). IsEdgeBefore c.edge y.edge) (sym is) (h.before_first c i x m (omega arith) inside)

  -- the next one is of the second list
  pub merged_second : (x : Counted) → k < length second → x ≡ get_or second k x → AreAscending second → ((n : ℕ) (d : Counted) → i ≤ n → n < length first → IsEdgeBefore x.edge (get_or first n d).edge) → IsMergedTo first second i (k + 1) (list ++ x ∷ [])
  merged_second x inside is up behind = record {
    merged = record {
      ascending = all_pairs_push (λ c d. IsEdgeBefore c.edge d.edge) list x h.merged.ascending (λ n d l. before (get_or list n d) (Contains-get_or list n d l));
      exact = λ c. (
        λ m. ⊎_elim (λ a. ⊎_elim (λ b. inl b) (λ b. inr ((in_take_more second k x inside is c).1 (inl b))) ((h.merged.exact c).0 a)) (λ e. inr ((in_take_more second k x inside is c).1 (inr e))) (Contains-push_cases list x c m),
        λ m. ⊎_elim
            (λ b. in_push list c x ((h.merged.exact c).1 (inl b)))
            (λ a. ⊎_elim (λ b. in_push list c x ((h.merged.exact c).1 (inr b))) (λ e. subst (λ (y : Counted). Contains (list ++ x ∷ []) y) e (Contains-push list x)) ((in_take_more second k x inside is c).0 a)) m,
      );
    };
    before_first = λ c n d m l r. ⊎_elim (λ a. h.before_first c n d a l r) (λ e. subst (λ (y : Counted). IsEdgeBefore y.edge (get_or first n d).edge) e (behind n d l r)) (Contains-push_cases list x c m);
    before_second = λ c n d m l r. ⊎_elim (λ a. h.before_second c n d a (omega (arith, l)) r) (λ e. subst (λ (y : Counted). IsEdgeBefore y.edge (get_or second n d).edge) e (later second k x is up n d l r)) (Contains-push_cases list x c m);
  }
    where
      before : (c : Counted) → Contains list c → IsEdgeBefore c.edge x.edge
      before c m = subst (λ (y : Counted). IsEdgeBefore c.edge y.edge) (sym is) (h.before_second c k x m (omega arith) inside)

-- what goes before one item of a list goes before the items from it on
pub before_rest : (xs : List Counted) (i : ℕ) (x : Counted) (e : Edge) → x ≡ get_or xs i x → AreAscending xs → IsEdgeBefore e x.edge → (n : ℕ) (d : Counted) → i ≤ n → n < length xs → IsEdgeBefore e (get_or xs n d).edge
before_rest xs i x e is up h n d l m = elim (cases_lt i n) [
  | inl less ↦ edge_before_trans e x.edge (get_or xs n d).edge h (later xs i x is up n d (omega (arith, less)) m)
  | inr more ↦ let same : i ≡ n = omega (arith, l, more) in subst (λ (y : Counted). IsEdgeBefore e y.edge) (is ∙ get_or_default xs i x d (omega (arith, l, m)) ∙ ap (λ (j : ℕ). get_or xs j d) same) h
]

-- an edge that isn't before another, and isn't it, is behind it
pub not_before : (e f : Edge) → (IsEdgeBefore e f → ⊥) → (e ≡ f → ⊥) → IsEdgeBefore f e
not_before e f n o = by_order (edge_cmp e f) (edge_ranks e f)
  where
    by_order : (c : Ordering) → MatchOrdering c (IsEdgeBefore e f) (e ≡ f) (IsEdgeBefore f e) → IsEdgeBefore f e
    by_order Less m = absurd (n m)
    by_order Equal m = absurd (o m)
    by_order Greater m = m

module _ (first second : List Counted) (i k : ℕ) (list : List Counted) (up : AreAscending first) (upper : AreAscending second) (others : AreOthers first second) (h : IsMergedTo first second i k list) (x : Counted) (inside : i < length first) (x_is : x ≡ get_or first i x) where
  -- the one of the second list is less
  pub second_next : (y : Counted) → k < length second → y ≡ get_or second k y → IsEdgeBefore y.edge x.edge → IsMergedTo first second i (k + 1) (list ++ y ∷ [])
  second_next y within y_is less = merged_second first second i k list h y within y_is upper (λ n d l m. before_rest first i x y.edge x_is up less n d l m)

  -- it isn't, or there is none
  pub first_next : (y : Counted) → k < length second → y ≡ get_or second k y → (IsEdgeBefore y.edge x.edge → ⊥) → IsMergedTo first second (i + 1) k (list ++ x ∷ [])
  first_next y within y_is more =
      let less = not_before y.edge x.edge more (λ e. others x y (i, inside, sym x_is) (k, within, sym y_is) (sym e)) in
      merged_first first second i k list h x inside x_is up (λ n d l m. before_rest second k y x.edge y_is upper less n d l m)

  pub first_alone : length second ≤ k → IsMergedTo first second (i + 1) k (list ++ x ∷ [])
  first_alone none = merged_first first second i k list h x inside x_is up (λ n d l m. absurd (omega (arith, l, m, none)))

-- the first list is read; what is left of the second one stands behind
module _ (first second : List Counted) (i k : ℕ) (list : List Counted) (done : length first ≤ i) (within : k ≤ length second) (upper : AreAscending second) (h : IsMergedTo first second i k list) where
  rest_size : length (drop k second) ≡ length second - k
  rest_size = length-drop k second

  rest_at : (n : ℕ) (d : Counted) → get_or (drop k second) n d ≡ get_or second (k + n) d
  rest_at n d = get_or-drop k second n d

  rest_ascends : AreAscending (drop k second)
  rest_ascends m n d l r = subst (λ (c : Counted). IsEdgeBefore c.edge (get_or (drop k second) n d).edge) (sym (rest_at m d)) (subst (λ (c : Counted). IsEdgeBefore (get_or second (k + m) d).edge c.edge) (sym (rest_at n d)) (upper (k + m) (k + n) d (omega (arith, l)) (let s = rest_size in omega (arith, r, s, within))))

  behind : (c d : Counted) → Contains list c → Contains (drop k second) d → IsEdgeBefore c.edge d.edge
  behind c d m (n, l, e) = subst (λ (x : Counted). IsEdgeBefore c.edge x.edge) (sym (rest_at n d) ∙ e) (h.before_second c (k + n) d m (omega arith) (let s = rest_size in omega (arith, l, s, within)))

  parts : take k second ++ drop k second ≡ second
  parts = take-append-drop k second

  pub merged_all : AreMerged first second (list ++ take (length second - k) (drop k second))
  merged_all = subst (λ (xs : List Counted). AreMerged first second (list ++ xs)) (sym (take_rest second k)) (record {
    ascending = pairs_append (λ c d. IsEdgeBefore c.edge d.edge) list (drop k second) h.merged.ascending rest_ascends behind;
    exact = λ c. (
      λ m. ⊎_elim
          (λ a. ⊎_elim (λ b. inl (subst (λ (xs : List Counted). Contains xs c) (take_all i first done) b)) (λ b. inr (subst (λ (xs : List Counted). Contains xs c) parts (Contains-append_left (take k second) (drop k second) c b))) ((h.merged.exact c).0 a))
          (λ a. inr (subst (λ (xs : List Counted). Contains xs c) parts (Contains-append_right (take k second) (drop k second) c a)))
          (Contains-append_cases list (drop k second) c m),
      λ m. ⊎_elim
          (λ a. Contains-append_left list (drop k second) c ((h.merged.exact c).1 (inl (subst (λ (xs : List Counted). Contains xs c) (sym (take_all i first done)) a))))
          (λ a. ⊎_elim (λ b. Contains-append_left list (drop k second) c ((h.merged.exact c).1 (inr b))) (λ b. Contains-append_right list (drop k second) c b) (Contains-append_cases (take k second) (drop k second) c (subst (λ (xs : List Counted). Contains xs c) (sym parts) a)))
          m,
    );
  })
