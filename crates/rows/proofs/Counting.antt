-- Ascending numbers below a bound are few, so all sets together have few features.
use Rattle.std.proofs.Common.{◌≡◌, inl, inr, ℕ, suc, ◌+◌, ◌*◌, ◌<◌, ◌≤◌, List, [], ◌∷◌, length, sum_by, arith, refl, ap, ◌∙◌, get_or, drop}
use Rattle.std.proofs.Math.Seq.{drop-cons}
use Rattle.std.specs.List.{All, AllPairs}
use Rattle.std.proofs.lemmas.List.Elements.{All-contains}
use Rattle.std.proofs.lemmas.List.Sums.{sum_by-cons}
use Rattle.geom.proofs.Lists.{In, in_contains}
use Rattle.geom.proofs.ListOrder.{pairs_head, pairs_tail}
use Rattle.cover_sets.specs.Sets.{AreSets, IsNumber, set_of}
use Rattle.rows.specs.declared.runs.RowSet.{RowSet}

-- from `low` on and below n
few : {X : Type 0} (f : X → ℕ) (low n : ℕ) (xs : List X) → AllPairs (λ x y. f x < f y) xs → ((x : X) → In x xs → low ≤ f x) → ((x : X) → In x xs → f x < n) → low ≤ n → low + length xs ≤ n
few f low n [] p h k l = omega (arith, l)
few f low n (x ∷ xs) p h k l =
    let here = h x (inl refl) in
    let below = k x (inl refl) in
    let rest = few f (suc (f x)) n xs (pairs_tail (λ x y. f x < f y) x xs p) (λ y i. above (f x) (f y) (pairs_head (λ x y. f x < f y) x xs p y i)) (λ y i. k y (inr i)) (above (f x) n below) in
    omega (arith, here, rest)
  where
    above : (a b : ℕ) → a < b → suc a ≤ b
    above a b h = omega arith

number_below : (sets : List (List ℕ)) (n : ℕ) → IsNumber sets n → n < 4294967296
number_below sets n (inl h) = omega (arith, h)
number_below sets n (inr h) = omega (arith, h)

module _ (sets : List (List ℕ)) (are : AreSets sets) where
  abbrev ids : RowSet → ℕ
  ids r = length (set_of sets r.set)

  one_small : (n : ℕ) → IsNumber sets n → length (set_of sets n) ≤ 2147483647
  one_small n i =
      let all = few (λ f. f) 0 2147483647 (set_of sets n) (are.ascending n i) (λ f j. none f) (λ f j. All-contains (λ f. f < 2147483647) (set_of sets n) f (are.below n i) (in_contains (set_of sets n) f j)) (omega arith) in
      omega (arith, all)
    where
      none : (f : ℕ) → 0 ≤ f
      none f = omega arith

  all_small : (rs : List RowSet) → ((r : RowSet) → In r rs → IsNumber sets r.set) → sum_by ids rs ≤ 2147483647 * length rs
  all_small [] h = omega arith
  all_small (r ∷ rs) h =
      let one = one_small r.set (h r (inl refl)) in
      let more = all_small rs (λ s i. h s (inr i)) in
      let whole = sum_by-cons ids r rs in
      omega (arith, one, more, whole)

  pub few_ids : (rs : List RowSet) → AllPairs (λ r s. r.set < s.set) rs → All (λ r. IsNumber sets r.set) rs → sum_by (λ r. length (set_of sets r.set)) rs < 18446744073709551616
  few_ids rs p h =
      let all = all_small rs (λ r i. All-contains (λ r. IsNumber sets r.set) rs r h (in_contains rs r i)) in
      let few_rows = few (λ (r : RowSet). r.set) 0 4294967296 rs p (λ r i. none r.set) (λ r i. number_below sets r.set (All-contains (λ r. IsNumber sets r.set) rs r h (in_contains rs r i))) (omega arith) in
      omega (arith, all, few_rows)
    where
      none : (f : ℕ) → 0 ≤ f
      none f = omega arith

-- one number more fits
pub ids_fit : (f : RowSet → ℕ) (rs : List RowSet) (k : ℕ) (d : RowSet) (ids n : ℕ) → k < length rs → n ≡ f (get_or rs k d) → ids + sum_by f (drop k rs) ≡ sum_by f rs → sum_by f rs < 18446744073709551616 → ids + n < 18446744073709551616
ids_fit f rs k d ids n h e i l =
    let rest = ap (sum_by f) (drop-cons rs k d h) ∙ sum_by-cons f (get_or rs k d) (drop (suc k) rs) in
    omega (arith, e, i, l, rest)
