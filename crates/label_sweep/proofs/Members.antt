-- Members and pairs of parts of lists, by recursion.
use Rattle.std.proofs.Common.{◌≡◌, ◌⊎◌, inl, inr, ⊎_elim, ℕ, zero, suc, ◌+◌, ◌<◌, ◌≤◌, List, [], ◌∷◌, ◌++◌, map, length, get_or, take, drop, reverse, refl, sym, ap, ◌∙◌, subst, arith}
use Rattle.std.specs.List.{All, AllPairs, AllWithin}
use Rattle.std.proofs.lemmas.List.{get_or-map, length-map, reverse-append, map-append, take-append-drop}
use Rattle.std.proofs.lemmas.List.Elements.{All-nil, All-cons, All-contains}
use Rattle.std.proofs.lemmas.List.Kept.{AllPairs-cons}
use Rattle.std.proofs.lemmas.List.Sorted.{Contains-permutation, IsPermutation-reverse, IsPermutation-sym}
use Rattle.geom.proofs.Lists.{In, in_contains, contains_in, in_append, in_front, in_back}
use Rattle.geom.proofs.ListOrder.{pairs_head, pairs_tail}

module _ {X : Type 0} where
  pub all_of_in : (P : X → Type 0) (xs : List X) → ((x : X) → In x xs → P x) → All P xs
  all_of_in P [] h = All-nil P
  all_of_in P (x ∷ xs) h = All-cons P x xs (h x (inl refl)) (all_of_in P xs (λ y i. h y (inr i)))

  pub in_of_all : (P : X → Type 0) (xs : List X) → All P xs → (x : X) → In x xs → P x
  in_of_all P xs h x i = All-contains P xs x h (in_contains xs x i)

  pub in_reverse : (xs : List X) (x : X) → In x (reverse xs) → In x xs
  in_reverse xs x i = contains_in xs x (Contains-permutation (reverse xs) xs x (IsPermutation-sym xs (reverse xs) (IsPermutation-reverse xs)) (in_contains (reverse xs) x i))

  pub reverse_in : (xs : List X) (x : X) → In x xs → In x (reverse xs)
  reverse_in xs x i = contains_in (reverse xs) x (Contains-permutation xs (reverse xs) x (IsPermutation-reverse xs) (in_contains xs x i))

  pub reverse_cons : (x : X) (xs : List X) → reverse (x ∷ xs) ≡ reverse xs ++ (x ∷ [])
  reverse_cons x xs = reverse-append (x ∷ []) xs

  -- some item of a list that has a place
  pub some_item : (xs : List X) (n : ℕ) → n < length xs → X
  some_item [] n l = absurd (omega (arith, l))
  some_item (x ∷ xs) n l = x

  -- ---- parts
  pub in_take : (n : ℕ) (xs : List X) (x : X) → In x (take n xs) → In x xs
  in_take n xs x i = let P : List X → Type 0 = λ t. In x t in subst P (take-append-drop n xs) (in_front (take n xs) (drop n xs) x i)

  pub in_drop : (n : ℕ) (xs : List X) (x : X) → In x (drop n xs) → In x xs
  in_drop n xs x i = let P : List X → Type 0 = λ t. In x t in subst P (take-append-drop n xs) (in_back (take n xs) (drop n xs) x i)

  pub within_take : (P : X → Type 0) (xs : List X) (n : ℕ) → AllWithin P xs 0 n → (x : X) → In x (take n xs) → P x
  within_take P [] zero a x i = absurd i
  within_take P [] (suc n) a x i = absurd i
  within_take P (y ∷ ys) zero a x i = absurd i
  within_take P (y ∷ ys) (suc n) a x (inl e) = subst P e (a 0 y (omega arith) (omega arith))
  within_take P (y ∷ ys) (suc n) a x (inr i) = within_take P ys n (λ k d l h. a (suc k) d (omega arith) (omega (arith, h))) x i

  pub within_part : (P : X → Type 0) (xs : List X) (a m n : ℕ) → n ≤ a + m → AllWithin P xs a (a + m) → (x : X) → In x (take m (drop a xs)) → P x
  within_part P [] zero m n l w x i = absurd (in_take m [] x i)
  within_part P [] (suc a) m n l w x i = absurd (in_take m [] x i)
  within_part P (y ∷ ys) zero m n l w x i = within_take P (y ∷ ys) m (λ k d f h. w k d f (omega (arith, h))) x i
  within_part P (y ∷ ys) (suc a) m n l w x i = within_part P ys a m 0 (omega arith) (λ k d f h. w (suc k) d (omega (arith, f)) (omega (arith, h))) x i

  pub within_drop : (P : X → Type 0) (xs : List X) (n : ℕ) → AllWithin P xs n (length xs) → (x : X) → In x (drop n xs) → P x
  within_drop P [] zero a x i = absurd i
  within_drop P [] (suc n) a x i = absurd i
  within_drop P (y ∷ ys) zero a x (inl e) = subst P e (a 0 y (omega arith) (omega arith))
  within_drop P (y ∷ ys) zero a x (inr i) = within_drop P ys 0 (λ k d l h. a (suc k) d (omega arith) (omega (arith, h))) x i
  within_drop P (y ∷ ys) (suc n) a x i = within_drop P ys n (λ k d l h. a (suc k) d (omega (arith, l)) (omega (arith, h))) x i

  pub take_in : (xs : List X) (n i : ℕ) (d : X) → i < n → i < length xs → In (get_or xs i d) (take n xs)
  take_in [] n i d l h = absurd (omega arith)
  take_in (x ∷ xs) zero i d l h = absurd (omega arith)
  take_in (x ∷ xs) (suc n) zero d l h = inl refl
  take_in (x ∷ xs) (suc n) (suc i) d l h = inr (take_in xs n i d (omega arith) (omega arith))

  pub part_in : (xs : List X) (a m i : ℕ) (d : X) → a ≤ i → i < a + m → i < length xs → In (get_or xs i d) (take m (drop a xs))
  part_in [] a m i d f l h = absurd (omega arith)
  part_in (x ∷ xs) zero m i d f l h = take_in (x ∷ xs) m i d (omega arith) h
  part_in (x ∷ xs) (suc a) m zero d f l h = absurd (omega arith)
  part_in (x ∷ xs) (suc a) m (suc i) d f l h = part_in xs a m i d (omega arith) (omega arith) (omega arith)

  pub take_more : (xs : List X) (n m : ℕ) → n ≤ m → (x : X) → In x (take n xs) → In x (take m xs)
  take_more [] n m l x i = absurd (in_take n [] x i)
  take_more (y ∷ ys) zero m l x i = absurd i
  take_more (y ∷ ys) (suc n) zero l x i = absurd (omega arith)
  take_more (y ∷ ys) (suc n) (suc m) l x (inl e) = inl e
  take_more (y ∷ ys) (suc n) (suc m) l x (inr i) = inr (take_more ys n m (omega arith) x i)

  pub take_parts : (xs : List X) (a n m : ℕ) → n ≤ a + m → (x : X) → In x (take n xs) → In x (take a xs) ⊎ In x (take m (drop a xs))
  take_parts [] a n m l x i = absurd (in_take n [] x i)
  take_parts (y ∷ ys) a zero m l x i = absurd i
  take_parts (y ∷ ys) zero (suc n) m l x i = inr (take_more (y ∷ ys) (suc n) m (omega arith) x i)
  take_parts (y ∷ ys) (suc a) (suc n) m l x (inl e) = inl (inl e)
  take_parts (y ∷ ys) (suc a) (suc n) m l x (inr i) = ⊎_elim (λ j. inl (inr j)) (λ j. inr j) (take_parts ys a n m (omega arith) x i)

pub map_reverse : {X Y : Type 0} (f : X → Y) (xs : List X) → map f (reverse xs) ≡ reverse (map f xs)
map_reverse f [] = refl
map_reverse f (x ∷ xs) = ap (map f) (reverse_cons x xs) ∙ map-append f (reverse xs) (x ∷ []) ∙ ap (λ t. t ++ (f x ∷ [])) (map_reverse f xs) ∙ sym (reverse_cons (f x) (map f xs))

-- ---- pairs of a list's two parts
module _ {X : Type 0} (R : X → X → Type 0) where
  pub pairs_front : (xs ys : List X) → AllPairs R (xs ++ ys) → AllPairs R xs
  pairs_front [] ys h = λ i j d l m. absurd (omega (arith, m))
  pairs_front (x ∷ xs) ys h = AllPairs-cons R x xs (all_of_in (R x) xs (λ y i. pairs_head R x (xs ++ ys) h y (in_front xs ys y i))) (pairs_front xs ys (pairs_tail R x (xs ++ ys) h))

  pub pairs_back : (xs ys : List X) → AllPairs R (xs ++ ys) → AllPairs R ys
  pairs_back [] ys h = h
  pairs_back (x ∷ xs) ys h = pairs_back xs ys (pairs_tail R x (xs ++ ys) h)

  pub pairs_across : (xs ys : List X) → AllPairs R (xs ++ ys) → (x y : X) → In x xs → In y ys → R x y
  pairs_across [] ys h x y i j = absurd i
  pairs_across (z ∷ xs) ys h x y (inl e) j = subst (λ t. R t y) e (pairs_head R z (xs ++ ys) h y (in_back xs ys y j))
  pairs_across (z ∷ xs) ys h x y (inr i) j = pairs_across xs ys (pairs_tail R z (xs ++ ys) h) x y i j

  pub pairs_joined : (xs ys : List X) → AllPairs R xs → AllPairs R ys → ((x y : X) → In x xs → In y ys → R x y) → AllPairs R (xs ++ ys)
  pairs_joined [] ys h k across = k
  pairs_joined (x ∷ xs) ys h k across = AllPairs-cons R x (xs ++ ys)
      (all_of_in (R x) (xs ++ ys) (λ y i. ⊎_elim (λ j. pairs_head R x xs h y j) (λ j. across x y (inl refl) j) (in_append xs ys y i)))
      (pairs_joined xs ys (pairs_tail R x xs h) k (λ y z i j. across y z (inr i) j))

-- ---- pairs of what a function gives
pub pairs_of_map : {X Y : Type 0} (R : Y → Y → Type 0) (f : X → Y) (xs : List X) → AllPairs R (map f xs) → AllPairs (λ x y. R (f x) (f y)) xs
pairs_of_map {X} {Y} R f xs a i j d l m = subst (λ (t : Y). R t (f (get_or xs j d))) (at i (omega arith)) (subst (λ (t : Y). R (get_or (map f xs) i (f d)) t) (at j m) (a i j (f d) l (omega (arith, length-map xs f))))
  where
    at : (k : ℕ) → k < length xs → get_or (map f xs) k (f d) ≡ f (get_or xs k d)
    at k l = get_or-map f xs k d (f d) l

-- and the other way round
pub map_pairs : {X Y : Type 0} (R : Y → Y → Type 0) (f : X → Y) (xs : List X) → AllPairs (λ x y. R (f x) (f y)) xs → AllPairs R (map f xs)
map_pairs R f [] a i j d l m = absurd (omega arith)
map_pairs {X} {Y} R f (x ∷ xs) a i j d l m = subst (λ (t : Y). R t (get_or (map f (x ∷ xs)) j d)) (sym (at i (omega (arith, in_list))))
    (subst (λ (t : Y). R (f (get_or (x ∷ xs) i x)) t) (sym (at j in_list)) (a i j x l in_list))
  where
    in_list : j < length (x ∷ xs)
    in_list = omega (arith, m, length-map (x ∷ xs) f)

    at : (k : ℕ) → k < length (x ∷ xs) → get_or (map f (x ∷ xs)) k d ≡ f (get_or (x ∷ xs) k x)
    at k l = get_or-map f (x ∷ xs) k x d l
