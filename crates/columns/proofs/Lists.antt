-- Lists from one element to another, as a walk goes over them.
use Rattle.std.proofs.Common.{◌≡◌, ◌∙◌, ℕ, zero, suc, ◌+◌, ◌-◌, ◌≤◌, ◌<◌, List, [], ◌∷◌, ◌++◌, length, get_or, take, drop, refl, sym, ap, arith}
use Rattle.std.specs.Prelude.{slice_range}
use Rattle.std.proofs.lemmas.List.{get_or-drop, length-drop}

take_next : {X : Type 0} (xs : List X) (i : ℕ) (d : X) → i < length xs → take (suc i) xs ≡ take i xs ++ get_or xs i d ∷ []
take_next [] i d h = absurd (omega (arith, h))
take_next (x ∷ xs) zero d h = refl
take_next (x ∷ xs) (suc i) d h = ap (λ t. x ∷ t) (take_next xs i d (omega (arith, h)))

pub point_more : {X : Type 0} (ps : List X) (from end next : ℕ) (d : X) → from ≤ end → end < length ps → next ≡ end + 1 → slice_range ps from next ≡ slice_range ps from end ++ get_or ps end d ∷ []
point_more ps from end next d low high after =
    let i = end - from in
    let qs = drop from ps in
    let long : length qs ≡ length ps - from = length-drop from ps in
    let a : next - from ≡ suc i = omega (arith, low, after) in
    let e : from + i ≡ end = omega (arith, low) in
    ap (λ n. take n qs) a
    ∙ take_next qs i d (omega (arith, long, high, low))
    ∙ ap (λ p. take i qs ++ p ∷ []) (get_or-drop from ps i d ∙ ap (λ n. get_or ps n d) e)

take_first : {X : Type 0} (xs : List X) (n : ℕ) (d : X) → 0 < length xs → take (suc n) xs ≡ get_or xs 0 d ∷ take n (drop 1 xs)
take_first [] n d h = absurd (omega (arith, h))
take_first (x ∷ xs) n d h = refl

-- the first point, and those behind it
pub point_first : {X : Type 0} (ps : List X) (from past next : ℕ) (d : X) → from < past → from < length ps → next ≡ from + 1 → slice_range ps from past ≡ get_or ps from d ∷ slice_range ps next past
point_first {X} ps from past next d low high after =
    let n = past - next in
    let qs = drop from ps in
    let long : length qs ≡ length ps - from = length-drop from ps in
    let a : past - from ≡ suc n = omega (arith, low, after) in
    let e : from + 0 ≡ from = omega arith in
    ap (λ m. take m qs) a
    ∙ take_first qs n d (omega (arith, long, high))
    ∙ ap (λ p. p ∷ take n (drop 1 qs)) (get_or-drop from ps 0 d ∙ ap (λ m. get_or ps m d) e)
    ∙ ap (λ t. get_or ps from d ∷ take n t) (behind from ps ∙ ap (λ m. drop m ps) (sym after))
  where
    behind : (m : ℕ) (xs : List X) → drop 1 (drop m xs) ≡ drop (m + 1) xs
    behind zero xs = refl
    behind (suc m) [] = let e : suc m + 1 ≡ suc (m + 1) = omega arith in ap (λ n. drop n []) (sym e)
    behind (suc m) (x ∷ xs) = let e : suc m + 1 ≡ suc (m + 1) = omega arith in behind m xs ∙ ap (λ n. drop n (x ∷ xs)) (sym e)

length_front : {X : Type 0} (n : ℕ) (xs : List X) → n ≤ length xs → length (take n xs) ≡ n
length_front zero xs h = refl
length_front (suc n) [] h = absurd (omega (arith, h))
length_front (suc n) (x ∷ xs) h = ap suc (length_front n xs (omega (arith, h)))

pub length_slice : {X : Type 0} (ps : List X) (from past : ℕ) → past ≤ length ps → length (slice_range ps from past) ≡ past - from
length_slice ps from past h =
    let long : length (drop from ps) ≡ length ps - from = length-drop from ps in
    length_front (past - from) (drop from ps) (omega (arith, long, h))

-- one element alone
pub single : {X : Type 0} (xs : List X) (from next : ℕ) (d : X) → from < length xs → next ≡ from + 1 → slice_range xs from next ≡ get_or xs from d ∷ []
single xs from next d high after =
    let none : from - from ≡ 0 = omega arith in
    point_more xs from from next d (omega arith) high after ∙ ap (λ n. take n (drop from xs) ++ get_or xs from d ∷ []) none
