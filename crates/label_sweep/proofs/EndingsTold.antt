-- Where one edge ends at a vertex, at most one does, and where two end, at most two do.
use Rattle.std.proofs.Common.{◌≡◌, ◌⊎◌, ◌==◌, inl, inr, ℕ, suc, ◌+◌, ◌≤◌, ◌<◌, Bool, true, false, cond, List, [], ◌∷◌, get_or, length, refl, sym, ap, ◌∙◌, subst, arith}
use Rattle.std.specs.Prelude.{count_by}
use Rattle.std.proofs.lemmas.Bool.{eqb-true}
use Rattle.std.proofs.lemmas.List.{get_or_default}
use Rattle.geom.specs.declared.point.Pt.{Pt}
use Rattle.geom.specs.declared.edge.Edge.{Edge}
use Rattle.geom.specs.Segments.{same_point}
use Rattle.geom.proofs.Lists.{In, contains_in, count-cons, counts_some}
use Rattle.geom.proofs.Points.{same_point_of}
use Rattle.label_sweep.specs.declared.second_ends.Ending.{Ending}
use Rattle.label_sweep.specs.declared.second_ends.Ending.TheVariants.{One, Two, Other}
use Rattle.label_sweep.specs.Endings.{IsEnding, TellEndings, ending_of}

-- ---- where so many pass, no more do
module _ {X : Type 0} (p : X → Bool) where
  tail_counts : (b : Bool) (m n : ℕ) → cond b 1 0 + m ≤ n → m ≤ n
  tail_counts true m n l = omega (arith, l)
  tail_counts false m n l = omega (arith, l)

  -- behind the first one
  behind : (x : X) (xs : List X) (n : ℕ) → count_by p (x ∷ xs) ≤ n → count_by p xs ≤ n
  behind x xs n l = tail_counts (p x) (count_by p xs) n (subst (λ (m : ℕ). m ≤ n) (count-cons p x xs) l)

  -- and where that passes
  behind_one : (x y : X) (xs : List X) (n : ℕ) → x ≡ y → p y ≡ true → count_by p (x ∷ xs) ≤ suc n → count_by p xs ≤ n
  behind_one x y xs n e t l = let first = ap {B = ℕ} (λ b. cond b 1 0) (ap p e ∙ t) in omega (arith, count-cons p x xs, first, l)

  none_pass : (xs : List X) → count_by p xs ≤ 0 → (x : X) → In x xs → p x ≡ true → ⊥
  none_pass xs l x i t = let some = counts_some p xs x i t in omega (arith, some, l)

  one_passes : (xs : List X) → count_by p xs ≤ 1 → (x y : X) → In x xs → In y xs → p x ≡ true → p y ≡ true → x ≡ y
  one_passes [] l x y i j t u = absurd i
  one_passes (z ∷ xs) l x y (inl e) (inl f) t u = sym e ∙ f
  one_passes (z ∷ xs) l x y (inl e) (inr j) t u = absurd (none_pass xs (behind_one z x xs 0 e t l) y j u)
  one_passes (z ∷ xs) l x y (inr i) (inl f) t u = absurd (none_pass xs (behind_one z y xs 0 f u l) x i t)
  one_passes (z ∷ xs) l x y (inr i) (inr j) t u = one_passes xs (behind z xs 1 l) x y i j t u

  two_pass : (xs : List X) → count_by p xs ≤ 2 → (x y w : X) → In x xs → In y xs → In w xs → p x ≡ true → p y ≡ true → p w ≡ true → (x ≡ y) ⊎ ((y ≡ w) ⊎ (x ≡ w))
  two_pass [] l x y w i j k t u r = absurd i
  two_pass (z ∷ xs) l x y w (inl e) (inl f) k t u r = inl (sym e ∙ f)
  two_pass (z ∷ xs) l x y w (inl e) (inr j) (inl g) t u r = inr (inr (sym e ∙ g))
  two_pass (z ∷ xs) l x y w (inl e) (inr j) (inr k) t u r = inr (inl (one_passes xs (behind_one z x xs 1 e t l) y w j k u r))
  two_pass (z ∷ xs) l x y w (inr i) (inl f) (inl g) t u r = inr (inl (sym f ∙ g))
  two_pass (z ∷ xs) l x y w (inr i) (inl f) (inr k) t u r = inr (inr (one_passes xs (behind_one z y xs 1 f u l) x w i k t r))
  two_pass (z ∷ xs) l x y w (inr i) (inr j) (inl g) t u r = inl (one_passes xs (behind_one z w xs 1 g r l) x y i j t u)
  two_pass (z ∷ xs) l x y w (inr i) (inr j) (inr k) t u r = two_pass xs (behind z xs 2 l) x y w i j k t u r

-- ---- what is told of a number
if_one : (a b : Bool) → cond a One (cond b Two Other) ≡ One → a ≡ true
if_one true b e = refl
if_one false true e = absurd (let k = e in cc)
if_one false false e = absurd (let k = e in cc)

if_two : (a b : Bool) → cond a One (cond b Two Other) ≡ Two → b ≡ true
if_two true b e = absurd (let k = e in cc)
if_two false true e = refl
if_two false false e = absurd (let k = e in cc)

at_most : (n k : ℕ) → n ≡ k → n ≤ k
at_most n k e = omega (arith, e)

one_told : (n : ℕ) → ending_of n ≡ One → n ≤ 1
one_told n e = at_most n 1 (eqb-true n 1 (if_one (n == 1) (n == 2) e))

two_told : (n : ℕ) → ending_of n ≡ Two → n ≤ 2
two_told n e = at_most n 2 (eqb-true n 2 (if_two (n == 1) (n == 2) e))

-- ---- and of a vertex
module _ (es : List Edge) (v : Pt) where
  abbrev ends_here : Edge → Bool
  ends_here e = same_point e.q v

  ending_is : IsEnding es v (ending_of (count_by ends_here es))
  ending_is = record {
    once = λ t e f i j h k. one_passes ends_here es (one_told (count_by ends_here es) t) e f (contains_in es e i) (contains_in es f j) (same_point_of e.q v h) (same_point_of f.q v k);
    twice = λ t e f g i j l h k m. two_pass ends_here es (two_told (count_by ends_here es) t) e f g (contains_in es e i) (contains_in es f j) (contains_in es g l)
        (same_point_of e.q v h) (same_point_of f.q v k) (same_point_of g.q v m);
  }

pub ending_told : (es : List Edge) (vertices : List Pt) (endings : List Ending) → TellEndings es vertices endings → (k : ℕ) (u : Pt) (d : Ending) → k < length vertices
    → IsEnding es (get_or vertices k u) (get_or endings k d)
ending_told es vertices endings t k u d l = subst (IsEnding es (get_or vertices k u)) (sym (get_or_default endings k d Other (omega (arith, l, t.long)) ∙ t.each k u l)) (ending_is es (get_or vertices k u))
