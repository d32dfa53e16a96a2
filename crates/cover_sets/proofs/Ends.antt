-- The first and the last of ascending features are the least and the greatest, and they are found along the parts of trees.
use Rattle.std.proofs.Common.{◌≡◌, inl, inr, ℕ, ◌-◌, ◌<◌, ◌≤◌, List, [], ◌∷◌, ◌++◌, refl, sym, ap, ◌∙◌, arith, subst, append_assoc}
use Rattle.std.specs.List.{AllPairs}
use Rattle.std.proofs.lemmas.List.{append-nil}
use Rattle.geom.proofs.ListOrder.{pairs_head, pairs_tail}
use Rattle.geom.proofs.Lists.{In, in_back, in_contains}
use Rattle.geom.proofs.Owners.{all_in}
use Rattle.cover_sets.specs.declared.tree.Tree.{Tree}
use Rattle.cover_sets.specs.Ends.{IsGreatest, IsLeast}
use Rattle.cover_sets.specs.Sets.{AreSets, IsNumber, set_of}
use Rattle.cover_sets.specs.Trees.{IsPart, IsTree}
use Rattle.cover_sets.proofs.Numbered.{number_within, of_alone}
use Rattle.cover_sets.proofs.TreeLaws.{part_is_number, tree_set}

abbrev Ascends : List ℕ → Type 0
Ascends fs = AllPairs (λ f g. f < g) fs

first_least : (f : ℕ) (fs : List ℕ) → Ascends (f ∷ fs) → IsLeast (f ∷ fs) f
first_least f fs h = (in_contains (f ∷ fs) f (inl refl), all_in (λ g. f ≤ g) (f ∷ fs) (λ g i. least g i))
  where
    least : (g : ℕ) → In g (f ∷ fs) → f ≤ g
    least g (inl e) = omega arith
    least g (inr i) = let l : f < g = pairs_head (λ (x y : ℕ). x < y) f fs h g i in omega arith

none_greater : (fs : List ℕ) (f : ℕ) → Ascends (fs ++ f ∷ []) → (g : ℕ) → In g (fs ++ f ∷ []) → g ≤ f
none_greater [] f h g (inl e) = omega arith
none_greater [] f h g (inr i) = absurd i
none_greater (x ∷ xs) f h g (inl e) = let l : x < f = pairs_head (λ (y z : ℕ). y < z) x (xs ++ f ∷ []) h f (in_back xs (f ∷ []) f (inl refl)) in omega arith
none_greater (x ∷ xs) f h g (inr i) = none_greater xs f (pairs_tail (λ (y z : ℕ). y < z) x (xs ++ f ∷ []) h) g i

last_greatest : (fs : List ℕ) (f : ℕ) → Ascends (fs ++ f ∷ []) → IsGreatest (fs ++ f ∷ []) f
last_greatest fs f h = (in_contains (fs ++ f ∷ []) f (in_back fs (f ∷ []) f (inl refl)), all_in (λ g. g ≤ f) (fs ++ f ∷ []) (none_greater fs f h))

-- ---- along the parts
part_below : (place n : ℕ) → place < 2147483648 → IsPart place n → n < 4294967295
part_below place n b (inl h) = omega arith
part_below place n b (inr h) = h.1

number_some : (sets : List (List ℕ)) (n : ℕ) → IsNumber sets n → ¬ (n ≡ 4294967295) → n < 4294967295
number_some sets n (inl h) e = let l = h.0 in omega arith
number_some sets n (inr h) e = let l = h.1 in omega arith

-- the set begins with that of a part
pub record Begins (sets : List (List ℕ)) (set part : ℕ) : Type 0 where
  pub number : IsNumber sets part
  pub some : part < 4294967295
  pub rest : List ℕ
  pub is : set_of sets set ≡ set_of sets part ++ rest

-- the set ends with that of a part
pub record Ends (sets : List (List ℕ)) (set part : ℕ) : Type 0 where
  pub number : IsNumber sets part
  pub some : part < 4294967295
  pub front : List ℕ
  pub is : set_of sets set ≡ front ++ set_of sets part

module _ (sets : List (List ℕ)) (set : ℕ) where
  pub begins : IsNumber sets set → ¬ (set ≡ 4294967295) → Begins sets set set
  begins n h = record { number = n; some = number_some sets set n h; rest = []; is = sym (append-nil (set_of sets set)) }

  pub ends : IsNumber sets set → ¬ (set ≡ 4294967295) → Ends sets set set
  ends n h = record { number = n; some = number_some sets set n h; front = []; is = refl }

  module _ (place : ℕ) (t : Tree) (is : IsTree sets place t) (b : place < 2147483648) where
    pub begins_low : Begins sets set place → Begins sets set t.low
    begins_low h = record {
      number = part_is_number sets place t.low (number_within sets place h.number b) b is.low;
      some = part_below place t.low b is.low;
      rest = set_of sets t.high ++ h.rest;
      is = h.is ∙ ap (λ (xs : List ℕ). xs ++ h.rest) (tree_set sets place t is b) ∙ append_assoc (set_of sets t.low) (set_of sets t.high) h.rest;
    }

    pub ends_high : Ends sets set place → Ends sets set t.high
    ends_high h = record {
      number = part_is_number sets place t.high (number_within sets place h.number b) b is.high;
      some = part_below place t.high b is.high;
      front = h.front ++ set_of sets t.low;
      is = h.is ∙ ap (λ (xs : List ℕ). h.front ++ xs) (tree_set sets place t is b) ∙ sym (append_assoc h.front (set_of sets t.low) (set_of sets t.high));
    }

  module _ (are : AreSets sets) (n : IsNumber sets set) (part : ℕ) (alone : 2147483648 ≤ part) where
    pub least_found : Begins sets set part → IsLeast (set_of sets set) (part - 2147483648)
    least_found h =
        let e : set_of sets set ≡ (part - 2147483648) ∷ h.rest = h.is ∙ ap (λ (xs : List ℕ). xs ++ h.rest) (of_alone sets part alone h.some) in
        subst (λ (xs : List ℕ). IsLeast xs (part - 2147483648)) (sym e) (first_least (part - 2147483648) h.rest (subst Ascends e (are.ascending set n)))

    pub greatest_found : Ends sets set part → IsGreatest (set_of sets set) (part - 2147483648)
    greatest_found h =
        let e : set_of sets set ≡ h.front ++ (part - 2147483648) ∷ [] = h.is ∙ ap (λ (xs : List ℕ). h.front ++ xs) (of_alone sets part alone h.some) in
        subst (λ (xs : List ℕ). IsGreatest xs (part - 2147483648)) (sym e) (last_greatest h.front (part - 2147483648) (subst Ascends e (are.ascending set n)))
