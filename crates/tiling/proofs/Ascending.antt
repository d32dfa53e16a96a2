-- Ascending lists of numbers with the same members.
use Rattle.std.proofs.Common.{◌≡◌, ℕ, zero, suc, ◌+◌, ◌<◌, ◌≤◌, Bool, true, false, cond, ◌&&◌, eqb, List, [], ◌∷◌, map, length, get_or, refl, sym, ap, ap₂, ◌∙◌, arith, inl, inr}
use Rattle.std.proofs.lemmas.Bool.{cases_lt, eq-eqb, ne_eqb}
use Rattle.std.proofs.lemmas.List.Sums.{sum_by-cons}
use Rattle.std.proofs.lemmas.List.Sorted.{sum_by-IsPermutation}
use Rattle.std.specs.List.Sorted.{IsPermutation}
use Rattle.std.specs.List.{count_by, filter, range_with_len}

-- how often v stands in a list
abbrev pub often : ℕ → List ℕ → ℕ
often v xs = count_by (λ x. eqb x v) xs

pub record IsUp (xs : List ℕ) : Type 0 where
  pub up : (i j : ℕ) → i ≤ j → j < length xs → get_or xs i 0 ≤ get_or xs j 0

often-cons : (v x : ℕ) (xs : List ℕ) → often v (x ∷ xs) ≡ cond (eqb x v) 1 0 + often v xs
often-cons v x xs = sum_by-cons (λ x. cond (eqb x v) 1 0) x xs

tail_up : (x : ℕ) (xs : List ℕ) → IsUp (x ∷ xs) → IsUp xs
tail_up x xs h = record { up = λ i j l m. h.up (suc i) (suc j) (omega arith) (omega arith) }

head_least : (x : ℕ) (xs : List ℕ) → IsUp (x ∷ xs) → (i : ℕ) → i < length xs → x ≤ get_or xs i 0
head_least x xs h i l = h.up 0 (suc i) (omega arith) (omega arith)

plus_none : (n : ℕ) → n ≡ 0 → 0 + n ≡ 0
plus_none n e = omega arith

plus_zero : (n : ℕ) → n ≡ 0 + n
plus_zero n = omega arith

never : (v : ℕ) (xs : List ℕ) → ((i : ℕ) → i < length xs → v < get_or xs i 0) → often v xs ≡ 0
never v [] h = refl
never v (x ∷ xs) h =
    let first : v < x = h 0 (omega arith) in
    often-cons v x xs ∙ rw (ne_eqb x v (λ e. omega arith)) (plus_none _ (never v xs (λ i l. h (suc i) (omega arith))))

here : (x : ℕ) (xs : List ℕ) → often x (x ∷ xs) ≡ 1 + often x xs
here x xs = often-cons x x xs ∙ rw (eq-eqb x x refl) refl

below_head : (v y : ℕ) (ys : List ℕ) → IsUp (y ∷ ys) → v < y → often v (y ∷ ys) ≡ 0
below_head v y ys h l = never v (y ∷ ys) later
  where
    later : (i : ℕ) → i < length (y ∷ ys) → v < get_or (y ∷ ys) i 0
    later zero m = l
    later (suc i) m = let k = head_least y ys h i (omega arith) in omega arith

tail_often : (v x y m n k l : ℕ) → x ≡ y → k ≡ l → k ≡ cond (eqb x v) 1 0 + m → l ≡ cond (eqb y v) 1 0 + n → m ≡ n
tail_often v x y m n k l e f p q =
    let s : cond (eqb x v) 1 0 + m ≡ cond (eqb x v) 1 0 + n = sym p ∙ f ∙ q ∙ sym (ap (λ (a : ℕ). cond (eqb a v) 1 0 + n) e) in
    cancel (cond (eqb x v) 1 0) m n s
  where
    cancel : (c m n : ℕ) → c + m ≡ c + n → m ≡ n
    cancel c m n s = omega arith

pub same_ascending : (xs ys : List ℕ) → IsUp xs → IsUp ys → ((v : ℕ) → often v xs ≡ often v ys) → xs ≡ ys
same_ascending [] [] h k e = refl
same_ascending [] (y ∷ ys) h k e = absurd (omega (arith, e y, here y ys))
same_ascending (x ∷ xs) [] h k e = absurd (omega (arith, e x, here x xs))
same_ascending (x ∷ xs) (y ∷ ys) h k e =
    elim (cases_lt x y) [
      | inl less ↦ absurd (omega (arith, e x, here x xs, below_head x y ys k less))
      | inr more ↦ elim (cases_lt y x) [
        | inl less ↦ absurd (omega (arith, e y, here y ys, below_head y x xs h less))
        | inr most ↦
            let same : x ≡ y = omega arith in
            ap₂ (λ a rest. a ∷ rest) same (same_ascending xs ys (tail_up x xs h) (tail_up y ys k) (λ v. tail_often v x y _ _ _ _ same (e v) (often-cons v x xs) (often-cons v y ys)))
      ]
    ]

-- ---- filters
filter_step : (p q : ℕ → Bool) (x : ℕ) (xs : List ℕ) (b : Bool) → p x ≡ b → count_by q (filter p xs) ≡ count_by (λ x. p x && q x) xs → count_by q (cond (p x) (x ∷ filter p xs) (filter p xs)) ≡ cond (p x && q x) 1 0 + count_by (λ x. p x && q x) xs
filter_step p q x xs true e h = rw e (sum_by-cons (λ x. cond (q x) 1 0) x (filter p xs) ∙ ap (λ n. cond (q x) 1 0 + n) h)
filter_step p q x xs false e h = rw e (h ∙ plus_zero _)

count_filter : (p q : ℕ → Bool) (xs : List ℕ) → count_by q (filter p xs) ≡ count_by (λ x. p x && q x) xs
count_filter p q [] = refl
count_filter p q (x ∷ xs) = filter_step p q x xs (p x) refl (count_filter p q xs) ∙ sym (sum_by-cons (λ x. cond (p x && q x) 1 0) x xs)

map_step : (p : ℕ → Bool) (f : ℕ → ℕ) (k : ℕ) (ks : List ℕ) (b : Bool) → p (f k) ≡ b → map f (filter (λ k. p (f k)) ks) ≡ filter p (map f ks) → map f (cond (p (f k)) (k ∷ filter (λ k. p (f k)) ks) (filter (λ k. p (f k)) ks)) ≡ cond (p (f k)) (f k ∷ filter p (map f ks)) (filter p (map f ks))
map_step p f k ks true e h = rw e (ap (λ r. f k ∷ r) h)
map_step p f k ks false e h = rw e h

filter_map : (p : ℕ → Bool) (f : ℕ → ℕ) (ks : List ℕ) → map f (filter (λ k. p (f k)) ks) ≡ filter p (map f ks)
filter_map p f [] = refl
filter_map p f (k ∷ ks) = map_step p f k ks (p (f k)) refl (filter_map p f ks)

-- what was found at places, by numbers and in order, is what is found among the numbers
pub found_in_order : (p : ℕ → Bool) (order : List ℕ) (n : ℕ) (found out : List ℕ) → IsPermutation order (range_with_len 0 n) → map (λ k. get_or order k 0) (range_with_len 0 n) ≡ order
    → found ≡ map (λ k. get_or order k 0) (filter (λ k. p (get_or order k 0)) (range_with_len 0 n)) → IsPermutation found out → IsUp out → IsUp (filter p (range_with_len 0 n)) → out ≡ filter p (range_with_len 0 n)
found_in_order p order n found out perm all f sorted up target =
    same_ascending out (filter p (range_with_len 0 n)) up target (λ v.
    let e : found ≡ filter p order = f ∙ filter_map p (λ k. get_or order k 0) (range_with_len 0 n) ∙ ap (filter p) all in
    sum_by-IsPermutation (λ x. cond (eqb x v) 1 0) found out sorted ∙ ap (often v) e ∙ count_filter p (λ x. eqb x v) order
    ∙ sym (sum_by-IsPermutation (λ x. cond (p x && eqb x v) 1 0) order (range_with_len 0 n) perm) ∙ sym (count_filter p (λ x. eqb x v) (range_with_len 0 n)))
