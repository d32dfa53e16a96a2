-- The numbers of the boxes that meet a rectangle: there is one such list, and it is what a filter finds.
use Rattle.std.proofs.Common.{◌≡◌, ℕ, zero, suc, ◌+◌, ◌-◌, ◌<◌, ◌≤◌, Bool, true, false, cond, ◌&&◌, List, [], ◌∷◌, length, get_or, map, refl, sym, ap, ap₂, ◌∙◌, subst, arith, inl, inr, ℤ}
use Rattle.std.specs.Prelude.{◌≤ℤ◌, Some, slice_get, Contains, AllPairs, filter}
use Rattle.std.specs.List.{range_with_len}
use Rattle.std.proofs.lemmas.Option.{get_or_from_slice_get, slice_get_within}
use Rattle.std.proofs.lemmas.List.{get_or-map}
use Rattle.std.proofs.lemmas.List.Kept.{AllPairs-filter, AllPairs-cons}
use Rattle.std.proofs.lemmas.List.FromFn.{length-range_with_len, get_or-range_with_len}
use Rattle.std.proofs.lemmas.Int.{by_lt_z}
use Rattle.std.proofs.lemmas.Bool.{cases_lt}
use Rattle.geom.proofs.Lists.{In, contains_in, in_contains}
use Rattle.geom.specs.declared.point.Pt.{Pt}
use Rattle.geom.specs.declared.rect.Rect.{Rect}
use Rattle.lane_tests.specs.Columns.{corners, nowhere, touches, passing, touching_numbers}
use Rattle.geom.specs.Box.{IsInBox, ShareAPoint}
use Rattle.geom.proofs.Boxes.{share_in, share_out}
use Rattle.geom.proofs.Tests.{le_told, le_yes}
use Rattle.geom.proofs.Numbers.{weak, itself, le_le}
use Rattle.lane_tests.specs.Meeting.{AreMeeting, MeetsAt}

-- ---- a common point, by four comparisons
pub all_four : (p q r s : Bool) → p ≡ true → q ≡ true → r ≡ true → s ≡ true → p && q && r && s ≡ true
all_four p q r s e f g h = rw (e, f, g, h) refl

pub four_of : (p q r s : Bool) → p && q && r && s ≡ true → (p ≡ true) × (q ≡ true) × (r ≡ true) × (s ≡ true)
four_of true true true true e = (refl, refl, refl, refl)
four_of true true true false e = cc
four_of true true false s e = cc
four_of true false r s e = cc
four_of false q r s e = cc

pub touches_from : (b r : Rect) → ShareAPoint b.lo b.hi r.lo r.hi → touches (corners b) (corners r) ≡ true
touches_from b r h = let s = share_in b r h in all_four _ _ _ _ (le_yes _ _ s.0.0) (le_yes _ _ s.1.0) (le_yes _ _ s.0.1) (le_yes _ _ s.1.1)

record Common (a b c d : ℤ) : Type 0 where
  at : ℤ
  low : a ≤ℤ at
  high : at ≤ℤ b
  from : c ≤ℤ at
  to : at ≤ℤ d

-- two intervals of which each begins before the other ends have a common number
overlap : (a b c d : ℤ) → a ≤ℤ b → c ≤ℤ d → a ≤ℤ d → c ≤ℤ b → Common a b c d
overlap a b c d h k l m = by_lt_z a c (λ n. record { at = c; low = weak a c n; high = m; from = itself c; to = k }) (λ n. record { at = a; low = itself a; high = h; from = n; to = l })

pub share_from : (b r : Rect) → touches (corners b) (corners r) ≡ true → ShareAPoint b.lo b.hi r.lo r.hi
share_from b r e = let t = four_of _ _ _ _ e in share_out b r (le_told _ _ t.0, le_told _ _ t.2) (le_told _ _ t.1, le_told _ _ t.3)

-- boxes with whole corners that share a point share a point of the grid
pub shared_whole : (b r : Rect) → ShareAPoint b.lo b.hi r.lo r.hi → (p : Pt) × IsInBox b.lo b.hi p × IsInBox r.lo r.hi p
shared_whole b r h =
    let s = share_in b r h in
    let x = overlap b.lo.x b.hi.x r.lo.x r.hi.x b.wide r.wide s.0.0 s.0.1 in
    let y = overlap b.lo.y b.hi.y r.lo.y r.hi.y b.high r.high s.1.0 s.1.1 in
    (record { x = x.at; y = y.at }, record { left = x.low; right = x.high; bottom = y.low; top = y.high }, record { left = x.from; right = x.to; bottom = y.from; top = y.to })

pub whole_shared : (b r : Rect) (p : Pt) → IsInBox b.lo b.hi p → IsInBox r.lo r.hi p → ShareAPoint b.lo b.hi r.lo r.hi
whole_shared b r p i j = share_out b r (le_le _ _ _ i.left j.right, le_le _ _ _ j.left i.right) (le_le _ _ _ i.bottom j.top, le_le _ _ _ j.bottom i.top)

-- ---- members of a filtered range
in_range : (a n k : ℕ) → In k (range_with_len a n) → (a ≤ k) × (k < a + n)
in_range a zero k i = absurd i
in_range a (suc n) k (inl e) = (omega arith, omega arith)
in_range a (suc n) k (inr i) = let h = in_range (a + 1) n k i in (omega (arith, h.0), omega (arith, h.1))

range_has : (a n k : ℕ) → a ≤ k → k < a + n → In k (range_with_len a n)
range_has a zero k h l = omega arith
range_has a (suc n) k h l = elim (cases_lt a k) [
  | inl less ↦ inr (range_has (a + 1) n k (omega arith) (omega arith))
  | inr more ↦ inl (omega arith)
]

passed : (p : ℕ → Bool) (x k : ℕ) (xs rest : List ℕ) (b : Bool) → p x ≡ b → (In k rest → In k xs × (p k ≡ true)) → In k (cond b (x ∷ rest) rest) → In k (x ∷ xs) × (p k ≡ true)
passed p x k xs rest true t h (inl e) = (inl e, ap p (sym e) ∙ t)
passed p x k xs rest true t h (inr i) = (inr (h i).0, (h i).1)
passed p x k xs rest false t h i = (inr (h i).0, (h i).1)

in_filter : (p : ℕ → Bool) (xs : List ℕ) (k : ℕ) → In k (filter p xs) → In k xs × (p k ≡ true)
in_filter p [] k i = absurd i
in_filter p (x ∷ xs) k i = passed p x k xs (filter p xs) (p x) refl (in_filter p xs k) i

first_passes : (x k : ℕ) (rest : List ℕ) (b : Bool) → b ≡ true → x ≡ k → In k (cond b (x ∷ rest) rest)
first_passes x k rest true t e = inl e
first_passes x k rest false t e = cc

later_passes : (x k : ℕ) (rest : List ℕ) (b : Bool) → In k rest → In k (cond b (x ∷ rest) rest)
later_passes x k rest true i = inr i
later_passes x k rest false i = i

filter_has : (p : ℕ → Bool) (xs : List ℕ) (k : ℕ) → In k xs → p k ≡ true → In k (filter p xs)
filter_has p [] k i t = absurd i
filter_has p (x ∷ xs) k (inl e) t = first_passes x k (filter p xs) (p x) (ap p e ∙ t) e
filter_has p (x ∷ xs) k (inr i) t = later_passes x k (filter p xs) (p x) (filter_has p xs k i t)

range_up : (a n : ℕ) → AllPairs (λ i j. i < j) (range_with_len a n)
range_up a zero = λ i j d h l. absurd (omega arith)
range_up a (suc n) = AllPairs-cons (λ i j. i < j) a (range_with_len (a + 1) n) (λ i d l. above i d l) (range_up (a + 1) n)
  where
    above : (i d : ℕ) → i < length (range_with_len (a + 1) n) → a < get_or (range_with_len (a + 1) n) i d
    above i d l = omega (arith, get_or-range_with_len (a + 1) n i d (omega (arith, length-range_with_len (a + 1) n)))

-- ---- one ascending list
first_least : (x : ℕ) (xs : List ℕ) → AllPairs (λ i j. i < j) (x ∷ xs) → (k : ℕ) → In k xs → x < k
first_least x xs up k i = let c = in_contains xs k i in let h = up 0 (suc c.0) k (omega arith) (omega (arith, c.1)) in subst (λ m. x < m) c.2 h

rest_up : (x : ℕ) (xs : List ℕ) → AllPairs (λ i j. i < j) (x ∷ xs) → AllPairs (λ i j. i < j) xs
rest_up x xs up = λ i j d h l. up (suc i) (suc j) d (omega arith) (omega arith)

not_below : (x y : ℕ) (ys : List ℕ) → AllPairs (λ i j. i < j) (y ∷ ys) → In x (y ∷ ys) → y ≤ x
not_below x y ys up (inl e) = omega arith
not_below x y ys up (inr i) = let h = first_least y ys up x i in omega arith

in_rest : (x : ℕ) (xs : List ℕ) (k : ℕ) → x < k → In k (x ∷ xs) → In k xs
in_rest x xs k l (inl e) = absurd (omega arith)
in_rest x xs k l (inr i) = i

-- ascending lists with the same members are equal
pub same_members : (xs ys : List ℕ) → AllPairs (λ i j. i < j) xs → AllPairs (λ i j. i < j) ys → ((k : ℕ) → In k xs → In k ys) → ((k : ℕ) → In k ys → In k xs) → xs ≡ ys
same_members [] [] u v f g = refl
same_members [] (y ∷ ys) u v f g = absurd (g y (inl refl))
same_members (x ∷ xs) [] u v f g = absurd (f x (inl refl))
same_members (x ∷ xs) (y ∷ ys) u v f g =
    let e : x ≡ y = (let a = not_below x y ys v (f x (inl refl)) in let b = not_below y x xs u (g y (inl refl)) in omega arith) in
    ap₂ (λ z zs. z ∷ zs) e (same_members xs ys (rest_up x xs u) (rest_up y ys v)
    (λ k i. let l = first_least x xs u k i in in_rest y ys k (omega arith) (f k (inr i)))
    (λ k i. let l = first_least y ys v k i in in_rest x xs k (omega arith) (g k (inr i))))

-- ---- the numbers that a filter finds
at_corners : (boxes : List Rect) (rect : Rect) (k : ℕ) (b : Rect) → slice_get boxes k ≡ Some b → touches (get_or (map corners boxes) k nowhere) (corners rect) ≡ touches (corners b) (corners rect)
at_corners boxes rect k b e = ap (λ c. touches c (corners rect)) (get_or-map corners boxes k b nowhere (slice_get_within boxes k b e) ∙ ap corners (get_or_from_slice_get boxes k b b e))

there : (bs : List Rect) (k : ℕ) → k < length bs → (b : Rect) × (slice_get bs k ≡ Some b)
there [] k l = absurd (omega arith)
there (b ∷ bs) zero l = (b, refl)
there (b ∷ bs) (suc k) l = there bs k (omega arith)

meets_from : (boxes : List Rect) (rect : Rect) (k : ℕ) → k < length boxes → touches (get_or (map corners boxes) k nowhere) (corners rect) ≡ true → MeetsAt boxes rect k
meets_from boxes rect k l t = let b = there boxes k l in (b.0, b.1, share_from b.0 rect (sym (at_corners boxes rect k b.0 b.1) ∙ t))

meets_to : (boxes : List Rect) (rect : Rect) (k : ℕ) → MeetsAt boxes rect k → touches (get_or (map corners boxes) k nowhere) (corners rect) ≡ true
meets_to boxes rect k (b, e, s) = at_corners boxes rect k b e ∙ touches_from b rect s

pub filter_meets : (boxes : List Rect) (rect : Rect) (from to : ℕ) → from ≤ to → to ≤ length boxes → AreMeeting boxes rect from to (touching_numbers (map corners boxes) rect from to)
unfolding passing
filter_meets boxes rect from to h l = record {
  ascending = AllPairs-filter (λ i j. i < j) p (range_with_len from (to - from)) (range_up from (to - from));
  exact = λ k. (found k, finds k);
}
  where
    p : ℕ → Bool
    p k = touches (get_or (map corners boxes) k nowhere) (corners rect)

    found : (k : ℕ) → Contains (filter p (range_with_len from (to - from))) k → (from ≤ k) × (k < to) × MeetsAt boxes rect k
    found k c =
        let i = in_filter p (range_with_len from (to - from)) k (contains_in _ k c) in
        let r = in_range from (to - from) k i.0 in
        let below : k < to = omega (arith, r.1) in
        (r.0, below, meets_from boxes rect k (omega arith) i.1)

    finds : (k : ℕ) → (from ≤ k) × (k < to) × MeetsAt boxes rect k → Contains (filter p (range_with_len from (to - from))) k
    finds k (a, b, m) = in_contains _ k (filter_has p (range_with_len from (to - from)) k (range_has from (to - from) k a (omega arith)) (meets_to boxes rect k m))

-- a list of the numbers is what a filter finds
pub meeting_is : (boxes : List Rect) (rect : Rect) (from to : ℕ) (found : List ℕ) → from ≤ to → to ≤ length boxes → AreMeeting boxes rect from to found → found ≡ touching_numbers (map corners boxes) rect from to
meeting_is boxes rect from to found h l m =
    let other = filter_meets boxes rect from to h l in
    same_members found (touching_numbers (map corners boxes) rect from to) m.ascending other.ascending
    (λ k i. contains_in _ k ((other.exact k).1 ((m.exact k).0 (in_contains _ k i))))
    (λ k i. contains_in _ k ((m.exact k).1 ((other.exact k).0 (in_contains _ k i))))
