-- What a sorted index finds.
use Rattle.std.proofs.Common.{◌≡◌, ℕ, ◌-◌, ◌<◌, ◌≤◌, Bool, true, false, ◌&&◌, List, map, length, get_or, refl, sym, ap, ◌∙◌, arith, ℤ, pos}
use Rattle.std.specs.Prelude.{◌≤ℤ◌, ◌<ℤ◌, int_le}
use Rattle.std.proofs.lemmas.Int.{ints}
use Rattle.std.proofs.lemmas.List.Sorted.{IsNonDecreasingBy-from_sort}
use Rattle.std.specs.List.{filter, range_with_len}
use Rattle.std.specs.List.Sorted.{IsPermutation, IsSortedByKey}
use Rattle.std.proofs.Common.{nat_cmp}
use Rattle.geom.specs.declared.rect.Rect.{Rect}
use Rattle.geom.proofs.Tests.{le_no}
use Rattle.geom.proofs.Numbers.{le_lt}
use Rattle.lane_tests.specs.Columns.{Ends, corners, nowhere, touches, touching_numbers}
use Rattle.tiling.proofs.Ascending.{IsUp, found_in_order}
use Rattle.tiling.proofs.Finding.{filter_same, within_places, found_between, found_up, whole_order, passing_is}

-- the boxes by their left sides: the number at each place, the left sides, and what no right side up to a place is past
pub record IsIndex (boxes sorted : List Ends) (order : List ℕ) (lefts greatest : List ℤ) : Type 0 where
  pub order_len : length order ≡ length boxes
  pub lefts_len : length lefts ≡ length boxes
  pub permutation : IsPermutation order (range_with_len 0 (length boxes))
  pub sorted_is : (k : ℕ) → k < length boxes → get_or sorted k nowhere ≡ get_or boxes (get_or order k 0) nowhere
  pub lefts_are : (k : ℕ) → k < length boxes → get_or lefts k (pos 0) ≡ (get_or sorted k nowhere).0.x
  pub greatest_is : (k : ℕ) → k < length boxes → (get_or sorted k nowhere).1.x ≤ℤ get_or greatest k (pos 0)

past_right : (a l b : ℤ) → l ≡ a → b <ℤ l → b <ℤ a
past_right a l b e h = omega (arith, ints)

first_no : (a b c d : Bool) → a ≡ false → a && b && c && d ≡ false
first_no a b c d e = rw e refl

third_no : (a b c d : Bool) → c ≡ false → a && b && c && d ≡ false
third_no true true c d e = rw e refl
third_no true false c d e = refl
third_no false b c d e = refl

pub up_from_sorted : (xs : List ℕ) → IsSortedByKey (λ x. x) nat_cmp xs → IsUp xs
up_from_sorted xs h = record { up = λ i j k l. IsNonDecreasingBy-from_sort (λ x. x) xs h i j 0 k l }

module _ (boxes sorted : List Ends) (order : List ℕ) (lefts greatest : List ℤ) (h : IsIndex boxes sorted order lefts greatest) (r : Rect) (from to : ℕ) (places : from ≤ to) (within : to ≤ length lefts)
    (before : (k : ℕ) → k < from → get_or greatest k (pos 0) <ℤ r.lo.x) (after : (k : ℕ) → to ≤ k → k < length lefts → r.hi.x <ℤ get_or lefts k (pos 0)) where
  at : ℕ → Bool
  at k = touches (get_or sorted k nowhere) (corners r)

  not_before : (k : ℕ) → k < from → touches (get_or sorted k nowhere) (corners r) ≡ false
  not_before k l =
      let b = get_or sorted k nowhere in
      third_no (int_le b.0.x r.hi.x) (int_le b.0.y r.hi.y) (int_le r.lo.x b.1.x) (int_le r.lo.y b.1.y)
      (le_no r.lo.x b.1.x (le_lt b.1.x (get_or greatest k (pos 0)) r.lo.x (h.greatest_is k (omega (arith, h.lefts_len))) (before k l)))

  not_after : (k : ℕ) → to ≤ k → k < length boxes → touches (get_or sorted k nowhere) (corners r) ≡ false
  not_after k l m =
      let b = get_or sorted k nowhere in
      first_no (int_le b.0.x r.hi.x) (int_le b.0.y r.hi.y) (int_le r.lo.x b.1.x) (int_le r.lo.y b.1.y)
      (le_no b.0.x r.hi.x (past_right b.0.x (get_or lefts k (pos 0)) r.hi.x (h.lefts_are k m) (after k l (omega (arith, h.lefts_len)))))

  pub places_found : touching_numbers sorted r from to ≡ filter (λ k. touches (get_or boxes (get_or order k 0) nowhere) (corners r)) (range_with_len 0 (length boxes))
  places_found =
      passing_is (λ k. touches (get_or sorted k nowhere) (corners r)) from (to - from)
      ∙ within_places (λ k. touches (get_or sorted k nowhere) (corners r)) from to (length boxes) places (omega (arith, h.lefts_len)) not_before not_after
      ∙ filter_same (λ k. touches (get_or sorted k nowhere) (corners r)) (λ k. touches (get_or boxes (get_or order k 0) nowhere) (corners r)) 0 (length boxes) (λ k l m. ap (λ b. touches b (corners r)) (h.sorted_is k (omega arith)))

  pub bin_is : (found out : List ℕ) → found ≡ map (λ k. get_or order k 0) (touching_numbers sorted r from to) → IsPermutation found out → IsSortedByKey (λ x. x) nat_cmp out → out ≡ touching_numbers boxes r 0 (length boxes)
  bin_is found out e perm up =
      let p : ℕ → Bool = λ k. touches (get_or boxes k nowhere) (corners r) in
      let n : length boxes - 0 ≡ length boxes = omega arith in
      found_in_order p order (length boxes) found out h.permutation (whole_order order (length boxes) h.order_len) (e ∙ ap (map (λ k. get_or order k 0)) places_found) perm (up_from_sorted out up) (found_up p 0 (length boxes))
      ∙ sym (passing_is p 0 (length boxes - 0) ∙ ap (λ m. filter p (range_with_len 0 m)) n)

pub found_small : (sorted : List Ends) (r : Rect) (from to m : ℕ) → from ≤ to → to ≤ m → (k : ℕ) → k < length (touching_numbers sorted r from to) → get_or (touching_numbers sorted r from to) k 0 < m
found_small sorted r from to m h l k s =
    let e = passing_is (λ k. touches (get_or sorted k nowhere) (corners r)) from (to - from) in
    let b = (found_between (λ k. touches (get_or sorted k nowhere) (corners r)) from (to - from) k (rw e at s)).1 in
    omega (arith, b, ap (λ xs. get_or xs k 0) e)
