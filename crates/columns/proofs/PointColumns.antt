-- The points of columns, by number.
use Rattle.std.proofs.Common.{◌≡◌, ◌∙◌, ℕ, zero, suc, ◌+◌, ◌*◌, ◌≤◌, ◌<◌, List, [], ◌∷◌, length, get_or, refl, ap, arith, ℤ, pos}
use Rattle.std.specs.Prelude.{◌==◌, IsTrue}
use Rattle.std.proofs.lemmas.Bool.Decides.{nat_tests}
use Rattle.geom.specs.declared.point.Pt.{Pt}
use Rattle.columns.specs.Layout.{paired, pairs}

-- x and y side by side
abbrev pub point : ℤ → ℤ → Pt
point x y = record { x = x; y = y }

-- a point by its coordinates
pub both : (p : Pt) (x y : ℤ) → p.x ≡ x → p.y ≡ y → p ≡ point x y
both p x y e f = λ i. record { x = e i; y = f i }

pub pairs_few : (cs : List ℤ) → (2 * length (pairs cs) ≤ length cs) × (length cs ≤ 2 * length (pairs cs) + 1)
pairs_few [] = (omega arith, omega arith)
pairs_few (x ∷ []) = (omega arith, omega arith)
pairs_few (x ∷ y ∷ rest) = let h = pairs_few rest in let a = h.0 in let b = h.1 in (omega (arith, a), omega (arith, b))

pub pair_at : (cs : List ℤ) (i : ℕ) (d : Pt) → i < length (pairs cs) → get_or (pairs cs) i d ≡ point (get_or cs (2 * i) (pos 0)) (get_or cs (2 * i + 1) (pos 0))
pair_at [] i d lt = absurd (omega (arith, lt))
pair_at (x ∷ []) i d lt = absurd (omega (arith, lt))
pair_at (x ∷ y ∷ rest) zero d lt = refl
pair_at (x ∷ y ∷ rest) (suc i) d lt =
    let e : suc (suc (2 * i)) ≡ 2 * suc i = omega arith in
    let f : suc (suc (2 * i + 1)) ≡ 2 * suc i + 1 = omega arith in
    pair_at rest i d (omega (arith, lt))
    ∙ ap (λ n. point (get_or (x ∷ y ∷ rest) n (pos 0)) (get_or rest (2 * i + 1) (pos 0))) e
    ∙ ap (λ n. point (get_or (x ∷ y ∷ rest) (2 * suc i) (pos 0)) (get_or (x ∷ y ∷ rest) n (pos 0))) f

pub paired_few : (xs ys : List ℤ) → (length (paired xs ys) ≤ length xs) × (length (paired xs ys) ≤ length ys)
paired_few [] ys = (omega arith, omega arith)
paired_few (x ∷ xs) [] = (omega arith, omega arith)
paired_few (x ∷ xs) (y ∷ ys) = let h = paired_few xs ys in let a = h.0 in let b = h.1 in (omega (arith, a), omega (arith, b))

pub paired_all : (xs ys : List ℤ) → length xs ≡ length ys → length (paired xs ys) ≡ length xs
paired_all [] ys e = refl
paired_all (x ∷ xs) [] e = absurd (omega (arith, e))
paired_all (x ∷ xs) (y ∷ ys) e = ap suc (paired_all xs ys (omega (arith, e)))

pub paired_at : (xs ys : List ℤ) (i : ℕ) (d : Pt) → i < length (paired xs ys) → get_or (paired xs ys) i d ≡ point (get_or xs i (pos 0)) (get_or ys i (pos 0))
paired_at [] ys i d lt = absurd (omega (arith, lt))
paired_at (x ∷ xs) [] i d lt = absurd (omega (arith, lt))
paired_at (x ∷ xs) (y ∷ ys) zero d lt = refl
paired_at (x ∷ xs) (y ∷ ys) (suc i) d lt = paired_at xs ys i d (omega (arith, lt))

pub as_many : (a b : ℕ) → IsTrue (a == b) → a ≡ b
as_many a b h = grind (arith, nat_tests)
