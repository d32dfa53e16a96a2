-- Two ascending lists with no common element make one ascending list.
use Rattle.std.proofs.Common.{◌≡◌, ◌⊎◌, ◌↔◌, inl, inr, List, [], ◌∷◌, ◌++◌, refl, sym, ap, subst, ⊎_elim, append_assoc}
use Rattle.std.specs.Prelude.{AllPairs, Contains, flat_map, IsPermutation}
use Rattle.std.proofs.lemmas.Grind.{flat_map-append}
use Rattle.std.proofs.lemmas.List.Kept.{AllPairs-cons}
use Rattle.std.proofs.lemmas.List.Sorted.{IsPermutation-refl, IsPermutation-trans, IsPermutation-append_right}
use Rattle.geom.proofs.Lists.{In, contains_in, in_append, in_back, in_contains, in_front}
use Rattle.geom.proofs.ListOrder.{pairs_head, pairs_tail}
use Rattle.geom.proofs.Owners.{all_in}
use Rattle.geom.proofs.RingEdges.{same_order, to_front}

-- ---- members round a middle one
middle_in : {X : Type 0} (front : List X) (x : X) (back : List X) (z : X) → In z (front ++ x ∷ back) → (x ≡ z) ⊎ In z (front ++ back)
middle_in front x back z i = ⊎_elim (λ j. inr (in_front front back z j)) (λ j. ⊎_elim (λ e. inl e) (λ k. inr (in_back front back z k)) j)
    (in_append front (x ∷ back) z i)

in_middle : {X : Type 0} (front : List X) (x : X) (back : List X) (z : X) → (x ≡ z) ⊎ In z (front ++ back) → In z (front ++ x ∷ back)
in_middle front x back z (inl e) = in_back front (x ∷ back) z (inl e)
in_middle front x back z (inr i) = ⊎_elim (λ j. in_front front (x ∷ back) z j) (λ j. in_back front (x ∷ back) z (inr j)) (in_append front back z i)

flat_middle : {X Y : Type 0} (f : X → List Y) (front : List X) (x : X) (back : List X)
    → IsPermutation (f x ++ flat_map f (front ++ back)) (flat_map f (front ++ x ∷ back))
flat_middle f front x back = IsPermutation-trans _ _ _ (same_order (f x ++ flat_map f (front ++ back)) (f x ++ (flat_map f front ++ flat_map f back))
    (ap (λ t. f x ++ t) (flat_map-append f front back)))
    (IsPermutation-trans _ _ _ (to_front (f x) (flat_map f front) (flat_map f back))
    (same_order (flat_map f front ++ (f x ++ flat_map f back)) (flat_map f (front ++ x ∷ back)) (sym (flat_map-append f front (x ∷ back)))))

module _ {X Y : Type 0} (f : X → List Y) (Before : X → X → Type 0) (never : (x : X) → Before x x → ⊥)
    (trans : (x y z : X) → Before x y → Before y z → Before x z)
    (order : (x y : X) → (x ≡ y) ⊎ (Before x y ⊎ Before y x)) where
  -- the place of x in xs
  record Place (x : X) (xs : List X) : Type 0 where
    front : List X
    back : List X
    was : xs ≡ front ++ back
    ascending : AllPairs Before (front ++ x ∷ back)

  place : (x : X) (xs : List X) → AllPairs Before xs → ¬ (In x xs) → Place x xs
  place x [] asc n = record { front = []; back = []; was = refl; ascending = AllPairs-cons Before x [] (all_in (Before x) [] (λ z i. absurd i)) asc }
  place x (y ∷ ys) asc n = by_order (order x y) (place x ys (pairs_tail Before y ys asc) (λ i. n (inr i)))
    where
      by_order : (x ≡ y) ⊎ (Before x y ⊎ Before y x) → Place x ys → Place x (y ∷ ys)
      by_order (inl e) p = absurd (n (inl (sym e)))
      by_order (inr (inl h)) p = record {
        front = [];
        back = y ∷ ys;
        was = refl;
        ascending = AllPairs-cons Before x (y ∷ ys) (all_in (Before x) (y ∷ ys) later) asc;
      }
        where
          later : (z : X) → In z (y ∷ ys) → Before x z
          later z (inl e) = subst (Before x) e h
          later z (inr i) = trans x y z h (pairs_head Before y ys asc z i)
      by_order (inr (inr h)) p = record {
        front = y ∷ p.front;
        back = p.back;
        was = ap (λ t. y ∷ t) p.was;
        ascending = AllPairs-cons Before y (p.front ++ x ∷ p.back) (all_in (Before y) (p.front ++ x ∷ p.back)
            (λ z i. later z (middle_in p.front x p.back z i))) p.ascending;
      }
        where
          later : (z : X) → (x ≡ z) ⊎ In z (p.front ++ p.back) → Before y z
          later z (inl e) = subst (Before y) e h
          later z (inr i) = pairs_head Before y ys asc z (subst (In z) (sym p.was) i)

  -- both lists in one
  record Joined (xs ys : List X) : Type 0 where
    all : List X
    ascending : AllPairs Before all
    each : (x : X) → In x all ↔ (In x xs ⊎ In x ys)
    flat : IsPermutation (flat_map f xs ++ flat_map f ys) (flat_map f all)

  joined : (xs ys : List X) → AllPairs Before xs → AllPairs Before ys → ((x : X) → In x xs → ¬ (In x ys)) → Joined xs ys
  joined [] ys asc bsc apart = record {
    all = ys;
    ascending = bsc;
    each = λ x. ((λ i. inr i), (λ o. ⊎_elim (λ i. absurd i) (λ i. i) o));
    flat = IsPermutation-refl (flat_map f ys);
  }
  joined (x ∷ xs) ys asc bsc apart = with_one (joined xs ys (pairs_tail Before x xs asc) bsc (λ z i. apart z (inr i)))
    where
      with_one : Joined xs ys → Joined (x ∷ xs) ys
      with_one m = record {
        all = p.front ++ x ∷ p.back;
        ascending = p.ascending;
        each = λ z. ((λ i. there z (middle_in p.front x p.back z i)), (λ o. in_middle p.front x p.back z (back z o)));
        flat = IsPermutation-trans _ _ _ (same_order ((f x ++ flat_map f xs) ++ flat_map f ys) (f x ++ (flat_map f xs ++ flat_map f ys))
            (append_assoc (f x) (flat_map f xs) (flat_map f ys)))
            (IsPermutation-trans _ _ _ (IsPermutation-append_right (f x) (flat_map f xs ++ flat_map f ys) (flat_map f m.all) m.flat)
            (IsPermutation-trans _ _ _ (same_order (f x ++ flat_map f m.all) (f x ++ flat_map f (p.front ++ p.back))
            (ap (λ t. f x ++ flat_map f t) p.was))
            (flat_middle f p.front x p.back)));
      }
        where
          fresh : ¬ (In x m.all)
          fresh i = ⊎_elim (λ j. never x (pairs_head Before x xs asc x j)) (λ j. apart x (inl refl) j) ((m.each x).0 i)

          p : Place x m.all
          p = place x m.all m.ascending fresh

          there : (z : X) → (x ≡ z) ⊎ In z (p.front ++ p.back) → In z (x ∷ xs) ⊎ In z ys
          there z (inl e) = inl (inl e)
          there z (inr i) = ⊎_elim (λ j. inl (inr j)) (λ j. inr j) ((m.each z).0 (subst (In z) (sym p.was) i))

          back : (z : X) → In z (x ∷ xs) ⊎ In z ys → (x ≡ z) ⊎ In z (p.front ++ p.back)
          back z (inl (inl e)) = inl e
          back z (inl (inr j)) = inr (subst (In z) p.was ((m.each z).1 (inl j)))
          back z (inr j) = inr (subst (In z) p.was ((m.each z).1 (inr j)))

  pub record Merged (xs ys : List X) : Type 0 where
    pub all : List X
    pub ascending : AllPairs Before all
    pub each : (x : X) → Contains all x ↔ (Contains xs x ⊎ Contains ys x)
    pub flat : IsPermutation (flat_map f xs ++ flat_map f ys) (flat_map f all)

  pub merged : (xs ys : List X) → AllPairs Before xs → AllPairs Before ys → ((x : X) → Contains xs x → ¬ (Contains ys x)) → Merged xs ys
  merged xs ys asc bsc apart =
      let m = joined xs ys asc bsc (λ x i j. apart x (in_contains xs x i) (in_contains ys x j)) in record {
        all = m.all;
        ascending = m.ascending;
        each = λ x. (
          (λ i. ⊎_elim (λ j. inl (in_contains xs x j)) (λ j. inr (in_contains ys x j)) ((m.each x).0 (contains_in m.all x i))),
          (λ o. in_contains m.all x ((m.each x).1 (⊎_elim (λ j. inl (contains_in xs x j)) (λ j. inr (contains_in ys x j)) o))),
        );
        flat = m.flat;
      }
