-- A search for an edge by halves.
use Rattle.std.proofs.Common.{◌≡◌, ◌⊎◌, inl, inr, ℕ, ◌<◌, ◌≤◌, List, map, Bool, true, false, Ordering, Less, Equal, Greater, refl, sym, ◌∙◌, arith, subst, ⊎_elim, length, get_or}
use Rattle.std.specs.List.{AllPairs, AllWithin, Contains, HoldsAt}
use Rattle.std.specs.List.Sorted.{IsPartitionedBy}
use Rattle.std.specs.Ordering.{MatchOrdering, is_lt}
use Rattle.std.proofs.lemmas.List.{get_or-map, length-map}
use Rattle.geom.specs.declared.edge.Edge.{Edge}
use Rattle.geom.specs.EdgeOrder.{IsEdgeBefore}
use Rattle.geom.proofs.Orders.{edge_before_itself, edge_before_trans, edge_cmp, edge_ranks}
use Rattle.cover_law.specs.declared.border.Border.{Border}
use Rattle.cover_sets.proofs.BorderLists.{never, some_border, unequal}

abbrev pub is_less : Edge → Edge → Bool
is_less e f = is_lt (edge_cmp e f)

module _ (e f : Edge) where
  abbrev Ranks : Ordering → Type 0
  Ranks o = MatchOrdering o (IsEdgeBefore e f) (e ≡ f) (IsEdgeBefore f e)

  yes : (o : Ordering) → Ranks o → IsEdgeBefore e f → is_lt o ≡ true
  yes Less m h = refl
  yes Equal m h = absurd (never e f m h)
  yes Greater m h = absurd (edge_before_itself e (edge_before_trans e f e h m))

  no : (o : Ordering) → Ranks o → ¬ (IsEdgeBefore e f) → is_lt o ≡ false
  no Less m n = absurd (n m)
  no Equal m n = refl
  no Greater m n = refl

  told : (o : Ordering) → Ranks o → is_lt o ≡ true → IsEdgeBefore e f
  told Less m h = m
  told Equal m h = absurd (cc)
  told Greater m h = absurd (cc)

  less_yes : IsEdgeBefore e f → is_less e f ≡ true
  less_yes h = yes (edge_cmp e f) (edge_ranks e f) h

  less_told : is_less e f ≡ true → IsEdgeBefore e f
  less_told h = told (edge_cmp e f) (edge_ranks e f) h

  -- an answer that tells of the order is this test
  pub answer_is : (r : Bool) → (r ≡ true → IsEdgeBefore e f) → (r ≡ false → ¬ (IsEdgeBefore e f)) → r ≡ is_less e f
  answer_is true h k = sym (less_yes (h refl))
  answer_is false h k = sym (no (edge_cmp e f) (edge_ranks e f) (k refl))

module _ (bs : List Border) (up : AllPairs (λ b c. IsEdgeBefore b.edge c.edge) bs) (e : Edge) where
  pub parted : IsPartitionedBy (λ (b : Border). is_less b.edge e) bs
  parted i j d l m h = ⊎_elim (λ q. subst (λ (k : ℕ). is_less (get_or bs k d).edge e ≡ true) (sym q) h)
      (λ o. ⊎_elim (λ a. less_yes (get_or bs i d).edge e (edge_before_trans (get_or bs i d).edge (get_or bs j d).edge e (up i j d a m) (less_told (get_or bs j d).edge e h))) (λ a. absurd (omega arith)) o) (unequal i j)

  module _ (there : Contains (map (λ b. b.edge) bs) e) (n : ℕ) (before : AllWithin (λ b. is_less b.edge e ≡ true) bs 0 n) (rest : AllWithin (λ b. is_less b.edge e ≡ false) bs n (length bs)) where
    abbrev place : ℕ
    place = there.0

    within : place < length bs
    within = let l = there.1 in let q = length-map bs (λ (b : Border). b.edge) in omega arith

    at_place : (d : Border) → (get_or bs place d).edge ≡ e
    at_place d = sym (get_or-map (λ (b : Border). b.edge) bs place d e within) ∙ there.2

    not_passed : (d : Border) → place < n → ⊥
    not_passed d l = never (get_or bs place d).edge e (at_place d) (less_told (get_or bs place d).edge e (before place d (omega arith) l))

    less : (a b : ℕ) → (a < b) ⊎ (b ≤ a)
    less a b = ⊎_elim (λ q. inr (omega arith)) (λ o. ⊎_elim (λ l. inl l) (λ l. inr (omega arith)) o) (unequal a b)

    pub found_within : n < length bs
    found_within = ⊎_elim (λ l. absurd (not_passed (some_border bs place within) l)) (λ l. let w = within in omega arith) (less place n)

    pub found_edge : HoldsAt (λ b. b.edge ≡ e) bs n
    found_edge d = ⊎_elim (λ q. subst (λ (k : ℕ). (get_or bs k d).edge ≡ e) (sym q) (at_place d))
        (λ o. ⊎_elim (λ l. absurd (clash (get_or bs n d).edge (less_yes (get_or bs n d).edge e (subst (IsEdgeBefore (get_or bs n d).edge) (at_place d) (up n place d l within))) (rest n d (omega arith) found_within))) (λ l. absurd (not_passed d l)) o) (unequal n place)
      where
        clash : (f : Edge) → is_less f e ≡ true → is_less f e ≡ false → ⊥
        clash f h k = absurd (cc)
