-- Two lists whose elements belong to one another in turn.
use Rattle.std.proofs.Common.{◌≡◌, inl, inr, ℕ, ◌+◌, ◌-◌, ◌<◌, ◌≤◌, List, [], ◌∷◌, ◌++◌, length, get_or, take, drop, refl, sym, ap, ◌∙◌, arith, subst, flat_map, suc, zero, map}
use Rattle.std.proofs.Math.Seq.{drop-cons}
use Rattle.std.specs.List.{AllPairs, AllZip}
use Rattle.std.specs.Prelude.{slice_range}
use Rattle.std.proofs.lemmas.List.{take_all}
use Rattle.std.proofs.lemmas.List.Kept.{AllPairs-cons}
use Rattle.geom.proofs.Lists.{In, in_map}
use Rattle.geom.proofs.ListOrder.{pairs_head, pairs_tail}
use Rattle.geom.proofs.Owners.{all_in}
use Rattle.hands.specs.declared.part.Part.{Part}
use Rattle.hands.specs.Consecutive.{ArePartsOf}
use Rattle.hands.proofs.Consecutive.{behind_one_another}

module _ {X Y : Type 0} (R : X → Y → Type 0) where
  pub zip_append : (xs us : List X) (ys vs : List Y) → AllZip R xs ys → AllZip R us vs → AllZip R (xs ++ us) (ys ++ vs)
  zip_append [] us [] vs h k = k
  zip_append [] us (y ∷ ys) vs h k = absurd h
  zip_append (x ∷ xs) us [] vs h k = absurd h
  zip_append (x ∷ xs) us (y ∷ ys) vs h k = (h.0, zip_append xs us ys vs h.1 k)

  pub zip_of : (xs : List X) (ys : List Y) → AllZip R xs ys → (y : Y) → In y ys → (x : X) × In x xs × R x y
  zip_of [] [] h y i = absurd i
  zip_of [] (z ∷ ys) h y i = absurd h
  zip_of (x ∷ xs) [] h y i = absurd i
  zip_of (x ∷ xs) (z ∷ ys) h y (inl e) = (x, inl refl, subst (R x) e h.0)
  zip_of (x ∷ xs) (z ∷ ys) h y (inr i) = let o = zip_of xs ys h.1 y i in (o.0, inr o.1, o.2)

  pub zip_to : (xs : List X) (ys : List Y) → AllZip R xs ys → (x : X) → In x xs → (y : Y) × In y ys × R x y
  zip_to [] ys h x i = absurd i
  zip_to (z ∷ xs) [] h x i = absurd h
  zip_to (z ∷ xs) (y ∷ ys) h x (inl e) = (y, inl refl, subst (λ w. R w y) e h.0)
  zip_to (z ∷ xs) (y ∷ ys) h x (inr i) = let o = zip_to xs ys h.1 x i in (o.0, inr o.1, o.2)

  -- what holds of pairs of the first list makes another thing hold of pairs of the second one
  pub zip_pairs : (P : X → X → Type 0) (Q : Y → Y → Type 0) (xs : List X) (ys : List Y) → ((x w : X) (y z : Y) → In x xs → In w xs → P x w → R x y → R w z → Q y z) → AllZip R xs ys → AllPairs P xs → AllPairs Q ys
  zip_pairs P Q [] [] h k p = λ i j d a b. absurd (omega (arith, b))
  zip_pairs P Q [] (y ∷ ys) h k p = absurd k
  zip_pairs P Q (x ∷ xs) [] h k p = absurd k
  zip_pairs P Q (x ∷ xs) (y ∷ ys) h k p = AllPairs-cons Q y ys
      (all_in (Q y) ys (λ z i. let o = zip_of xs ys k.1 z i in h x o.0 y z (inl refl) (inr o.1) (pairs_head P x xs p o.0 o.1) k.0 o.2))
      (zip_pairs P Q xs ys (λ a b c d i j r s t. h a b c d (inr i) (inr j) r s t) k.1 (pairs_tail P x xs p))

-- pairs of what a function makes of elements
pub map_pairs : {X Y : Type 0} (R : Y → Y → Type 0) (f : X → Y) (xs : List X) → AllPairs (λ x y. R (f x) (f y)) xs → AllPairs R (map f xs)
map_pairs R f [] p = λ i j d a b. absurd (omega (arith, b))
map_pairs {X} {Y} R f (x ∷ xs) p = AllPairs-cons R (f x) (map f xs)
    (all_in (R (f x)) (map f xs) (λ y i. let m = in_map f xs y i in subst (R (f x)) m.2 (pairs_head (λ (a b : X). R (f a) (f b)) x xs p m.0 m.1)))
    (map_pairs R f xs (pairs_tail (λ (a b : X). R (f a) (f b)) x xs p))

-- ---- parts of a list
module _ {X : Type 0} where
  take_behind : (n m k : ℕ) (xs : List X) → k ≡ n + m → take k xs ≡ take n xs ++ take m (drop n xs)
  take_behind zero m k xs e = ap (λ n. take n xs) (omega (arith, e))
  take_behind (suc n) m zero xs e = absurd (omega (arith, e))
  take_behind (suc n) zero (suc k) [] e = refl
  take_behind (suc n) (suc m) (suc k) [] e = refl
  take_behind (suc n) m (suc k) (x ∷ xs) e = ap (λ t. x ∷ t) (take_behind n m k xs (omega (arith, e)))

  drop_behind : (n m k : ℕ) (xs : List X) → k ≡ n + m → drop k xs ≡ drop m (drop n xs)
  drop_behind zero m k xs e = ap (λ n. drop n xs) (omega (arith, e))
  drop_behind (suc n) m zero xs e = absurd (omega (arith, e))
  drop_behind (suc n) zero (suc k) [] e = refl
  drop_behind (suc n) (suc m) (suc k) [] e = refl
  drop_behind (suc n) m (suc k) (x ∷ xs) e = drop_behind n m k xs (omega (arith, e))

  slice_behind : (xs : List X) (a b c : ℕ) → a ≤ b → b ≤ c → slice_range xs a c ≡ slice_range xs a b ++ slice_range xs b c
  slice_behind xs a b c low high = take_behind (b - a) (c - b) (c - a) (drop a xs) (omega (arith, low, high))
      ∙ ap (λ t. slice_range xs a b ++ take (c - b) t) (sym (drop_behind a (b - a) b xs (omega (arith, low))))

  pub none_in : (xs : List X) (a : ℕ) → slice_range xs a a ≡ []
  none_in xs a = ap (λ n. take n (drop a xs)) (nothing a)
    where
      nothing : (a : ℕ) → a - a ≡ 0
      nothing a = omega arith

  one_in : (xs : List X) (k : ℕ) (d : X) → k < length xs → slice_range xs k (k + 1) ≡ get_or xs k d ∷ []
  one_in xs k d l = ap (λ n. take n (drop k xs)) (one k) ∙ ap (take 1) (drop-cons xs k d l)
    where
      one : (k : ℕ) → k + 1 - k ≡ 1
      one k = omega arith

-- the elements that belong to a part, and one more
pub one_more_in : {X Y : Type 0} (R : X → Y → Type 0) (xs : List X) (a k : ℕ) (d : X) (ys : List Y) (y : Y) → a ≤ k → k < length xs → AllZip R (slice_range xs a k) ys → R (get_or xs k d) y → AllZip R (slice_range xs a (k + 1)) (ys ++ y ∷ [])
one_more_in R xs a k d ys y h l zip r = subst (λ t. AllZip R t (ys ++ y ∷ [])) (sym (slice_behind xs a k (k + 1) h (omega arith) ∙ ap (λ t. slice_range xs a k ++ t) (one_in xs k d l)))
    (zip_append R (slice_range xs a k) (get_or xs k d ∷ []) ys (y ∷ []) zip (r, tt))

-- all places of a list
pub whole_range : {X : Type 0} (xs : List X) → slice_range xs 0 (length xs) ≡ xs
whole_range xs = take_all (length xs - 0) xs (omega arith)

-- what belongs to each part belongs, one behind another, to the whole
pub all_parts : {X Y V : Type 0} (R : X → Y → Type 0) (items : V → List Y) (xs : List X) (ps : List Part) (vs : List V) → ArePartsOf 0 (length xs) ps → AllZip (λ (p : Part) v. AllZip R (slice_range xs p.from p.past) (items v)) ps vs → AllZip R xs (flat_map items vs)
all_parts R items xs ps vs parts zip = subst (λ t. AllZip R t (flat_map items vs)) (whole_range xs)
    (behind_one_another items (λ a b ys. AllZip R (slice_range xs a b) ys)
    (λ a. subst (λ t. AllZip R t []) (sym (none_in xs a)) tt)
    (λ a b c ys rest low high h i. subst (λ t. AllZip R t (ys ++ rest)) (sym (slice_behind xs a b c low high)) (zip_append R (slice_range xs a b) (slice_range xs b c) ys rest h i))
    0 (length xs) ps vs parts zip)
