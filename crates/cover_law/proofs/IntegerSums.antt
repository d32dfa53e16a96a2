-- Sums of integers over lists.
use Rattle.std.proofs.Common.{◌≡◌, inl, inr, ℕ, zero, suc, ◌+◌, List, [], ◌∷◌, Bool, true, false, cond, refl, sym, ap, ◌∙◌, arith, subst}
use Rattle.std.specs.List.{count_by, filter}
use Rattle.std.proofs.Math.IntN.{ℤ, pos, ◌+ℤ◌, ◌-ℤ◌}
use Rattle.std.proofs.lemmas.Int.{ints}
use Rattle.geom.proofs.Lists.{Distinct, In, count-cons}
use Rattle.cover_law.specs.Areas.{sum_of}

-- c where t holds
abbrev pub when : Bool → ℤ → ℤ
when t c = cond t c (pos 0)

pub sum_cong : {X : Type 0} (f g : X → ℤ) (xs : List X) → ((x : X) → In x xs → f x ≡ g x) → sum_of f xs ≡ sum_of g xs
sum_cong f g [] h = refl
sum_cong f g (x ∷ xs) h = ap (λ (n : ℤ). n +ℤ sum_of f xs) (h x (inl refl)) ∙ ap (λ (n : ℤ). g x +ℤ n) (sum_cong f g xs (λ y i. h y (inr i)))

mix : (a b c d : ℤ) → (a +ℤ b) +ℤ (c +ℤ d) ≡ (a +ℤ c) +ℤ (b +ℤ d)
mix a b c d = omega (arith, ints)

pub sum_add : {X : Type 0} (f g : X → ℤ) (xs : List X) → sum_of (λ x. f x +ℤ g x) xs ≡ sum_of f xs +ℤ sum_of g xs
sum_add f g [] = refl
sum_add f g (x ∷ xs) = ap (λ (n : ℤ). (f x +ℤ g x) +ℤ n) (sum_add f g xs) ∙ mix (f x) (g x) (sum_of f xs) (sum_of g xs)

unmix : (a b c d : ℤ) → (a -ℤ b) +ℤ (c -ℤ d) ≡ (a +ℤ c) -ℤ (b +ℤ d)
unmix a b c d = omega (arith, ints)

pub sum_less : {X : Type 0} (f g : X → ℤ) (xs : List X) → sum_of (λ x. f x -ℤ g x) xs ≡ sum_of f xs -ℤ sum_of g xs
sum_less f g [] = refl
sum_less f g (x ∷ xs) = ap (λ (n : ℤ). (f x -ℤ g x) +ℤ n) (sum_less f g xs) ∙ unmix (f x) (g x) (sum_of f xs) (sum_of g xs)

nothing_more : (a b : ℤ) → a ≡ pos 0 → b ≡ pos 0 → a +ℤ b ≡ pos 0
nothing_more a b h k = omega (arith, ints)

pub sum_none : {X : Type 0} (f : X → ℤ) (xs : List X) → ((x : X) → In x xs → f x ≡ pos 0) → sum_of f xs ≡ pos 0
sum_none f [] h = refl
sum_none f (x ∷ xs) h = nothing_more (f x) (sum_of f xs) (h x (inl refl)) (sum_none f xs (λ y i. h y (inr i)))

pub exchange : {X Y : Type 0} (g : X → Y → ℤ) (xs : List X) (ys : List Y) → sum_of (λ x. sum_of (g x) ys) xs ≡ sum_of (λ y. sum_of (λ x. g x y) xs) ys
exchange g [] ys = sym (sum_none (λ y. pos 0) ys (λ y i. refl))
exchange g (x ∷ xs) ys = ap (λ (n : ℤ). sum_of (g x) ys +ℤ n) (exchange g xs ys) ∙ sym (sum_add (g x) (λ y. sum_of (λ z. g z y) xs) ys)

-- ---- one term alone
only_front : (a b : ℤ) → b ≡ pos 0 → a +ℤ b ≡ a
only_front a b h = omega (arith, ints)

only_rest : (a b c : ℤ) → a ≡ pos 0 → b ≡ c → a +ℤ b ≡ c
only_rest a b c h k = omega (arith, ints)

pub sum_single : {X : Type 0} (f : X → ℤ) (xs : List X) → Distinct xs → (x : X) → In x xs → ((y : X) → In y xs → ¬ (y ≡ x) → f y ≡ pos 0) → sum_of f xs ≡ f x
sum_single f [] d x i h = absurd i
sum_single f (y ∷ ys) d x (inl e) h = only_front (f y) (sum_of f ys) (sum_none f ys (λ z i. h z (inr i) (λ k. d.0 (subst (λ w. In w ys) (k ∙ sym e) i)))) ∙ ap f e
sum_single f (y ∷ ys) d x (inr i) h = only_rest (f y) (sum_of f ys) (f x) (h y (inl refl) (λ k. d.0 (subst (λ w. In w ys) (sym k) i))) (sum_single f ys d.1 x i (λ z j. h z (inr j)))

-- ---- a constant where a test passes: the sum depends on how often it does
times : ℕ → ℤ → ℤ
times zero c = pos 0
times (suc n) c = c +ℤ times n c

one_more : (t : Bool) (n : ℕ) (c : ℤ) → when t c +ℤ times n c ≡ times (cond t 1 0 + n) c
unfolding times
one_more true n c = ap (λ (k : ℕ). times k c) (next n)
  where
    next : (n : ℕ) → suc n ≡ 1 + n
    next n = omega arith
one_more false n c = none (times n c) ∙ ap (λ (k : ℕ). times k c) (same n)
  where
    none : (a : ℤ) → pos 0 +ℤ a ≡ a
    none a = omega (arith, ints)

    same : (n : ℕ) → n ≡ 0 + n
    same n = omega arith

by_count : {X : Type 0} (p : X → Bool) (c : ℤ) (xs : List X) → sum_of (λ x. when (p x) c) xs ≡ times (count_by p xs) c
unfolding times
by_count p c [] = refl
by_count p c (x ∷ xs) = ap (λ (n : ℤ). when (p x) c +ℤ n) (by_count p c xs) ∙ one_more (p x) (count_by p xs) c ∙ ap (λ (k : ℕ). times k c) (sym (count-cons p x xs))

pub sum_counts : {X : Type 0} (p : X → Bool) (c : ℤ) (xs ys : List X) → count_by p xs ≡ count_by p ys → sum_of (λ x. when (p x) c) xs ≡ sum_of (λ x. when (p x) c) ys
sum_counts p c xs ys h = by_count p c xs ∙ ap (λ (k : ℕ). times k c) h ∙ sym (by_count p c ys)

-- ---- over the elements that pass
kept : {X : Type 0} (f : X → ℤ) (t : Bool) (x : X) (xs : List X) → sum_of f (cond t (x ∷ xs) xs) ≡ when t (f x) +ℤ sum_of f xs
kept f true x xs = refl
kept f false x xs = none (sum_of f xs)
  where
    none : (a : ℤ) → a ≡ pos 0 +ℤ a
    none a = omega (arith, ints)

pub sum_filter : {X : Type 0} (p : X → Bool) (f : X → ℤ) (xs : List X) → sum_of f (filter p xs) ≡ sum_of (λ x. when (p x) (f x)) xs
sum_filter p f [] = refl
sum_filter p f (x ∷ xs) = kept f (p x) x (filter p xs) ∙ ap (λ (n : ℤ). when (p x) (f x) +ℤ n) (sum_filter p f xs)
