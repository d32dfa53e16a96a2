-- From sixteen lanes to the places of columns.
use Rattle.std.proofs.Common.{◌≡◌, ℕ, ◌+◌, ◌%◌, ◌^◌, ◌<◌, ◌≤◌, Bool, true, false, cond, ◌||◌, List, [], ◌∷◌, map, length, get_or, take, drop, refl, sym, ap, ap₂, subst, ◌∙◌, arith, w32, of_z, to_z, to_z-of_z, FitsSigned, ℤ, pos}
use Rattle.std.proofs.lemmas.Simd.{map-map, mask_l-mod, mask_l-lt, bit_mask_l, length-chunk, get_or-chunk, zip2_of_maps}
use Rattle.std.proofs.lemmas.List.{same_lists, get_or_default}
use Rattle.std.proofs.lemmas.List.FromFn.{length-map-range_with_len, get_or-map-range_with_len}
use Rattle.std.specs.List.{range_with_len}
use Rattle.std.specs.Int.{bit_at}
use Rattle.std.specs.Prelude.{bit_or, int_lt}
use lib.Lanes.{mask_l, top, zip2}
use Rattle.box_lanes.specs.Sides.{sixteen}

-- a part of a list, by numbers
by_number : {X : Type 0} (xs : List X) (at n : ℕ) (d : X) → at + n ≤ length xs → take n (drop at xs) ≡ map (λ k. get_or xs k d) (range_with_len at n)
by_number xs at n d room =
    let l : length (take n (drop at xs)) ≡ n = length-chunk at n xs room in
    same_lists _ _ (l ∙ sym (length-map-range_with_len (λ k. get_or xs k d) at n)) (λ k e here.
    let h : k < n = omega (arith, l) in
    get_or-chunk at n xs k e h ∙ get_or_default xs (at + k) e d (omega arith) ∙ sym (get_or-map-range_with_len (λ k. get_or xs k d) at n k (at + k) e h refl))

-- the sixteen lanes z, computed from the numbers from `at` on
pub record AreLanes (at : ℕ) (f : ℕ → ℕ) (z : List ℕ) : Type 0 where
  pub is : z ≡ map f (range_with_len at 16)

-- of a column
pub column : (xs : List ℤ) (at : ℕ) → at + 16 ≤ length xs → AreLanes at (λ k. of_z w32 (get_or xs k (pos 0))) (map (of_z w32) (take 16 (drop at xs)))
column xs at room = record { is = ap (map (of_z w32)) (by_number xs at 16 (pos 0) room) ∙ map-map (of_z w32) (λ k. get_or xs k (pos 0)) (range_with_len at 16) }

-- sixteen times y
pub splat : (at y : ℕ) → AreLanes at (λ _. y) (y ∷ y ∷ y ∷ y ∷ y ∷ y ∷ y ∷ y ∷ y ∷ y ∷ y ∷ y ∷ y ∷ y ∷ y ∷ y ∷ [])
splat at y = record { is = refl }

pub both : (op : ℕ → ℕ → ℕ) {at : ℕ} {f g : ℕ → ℕ} {z w : List ℕ} → AreLanes at f z → AreLanes at g w → AreLanes at (λ k. op (f k) (g k)) (zip2 op z w)
both op {at} {f} {g} a b = record { is = zip2_of_maps op f g (range_with_len at 16) a.is b.is }

same_map : {X Y : Type 0} (f g : X → Y) (xs : List X) → ((x : X) → f x ≡ g x) → map f xs ≡ map g xs
same_map f g [] h = refl
same_map f g (x ∷ xs) h = ap₂ (λ y ys. y ∷ ys) (h x) (same_map f g xs h)

-- the mask of lanes
pub mask_is : (b : ℕ) {f : ℕ → ℕ} (p : ℕ → Bool) {at : ℕ} {z : List ℕ} → AreLanes at f z → ((k : ℕ) → top b (f k) ≡ p k) → mask_l (map (top b) z) % 2 ^ 64 ≡ sixteen p at
unfolding sixteen
mask_is b {f} p {at} {z} e h =
    let l : map (top b) z ≡ map p (range_with_len at 16) = ap (map (top b)) e.is ∙ map-map (top b) f (range_with_len at 16) ∙ same_map (λ k. top b (f k)) p (range_with_len at 16) h in
    ap (λ ms. mask_l ms % 2 ^ 64) l ∙ mask_l-mod (map p (range_with_len at 16)) 64 (omega (arith, length-map-range_with_len p at 16))

-- all ones or none
abbrev pub full : Bool → ℕ
full p = cond p 4294967295 0

pub top_of_four : (p q r s : Bool) → top 31 (bit_or (bit_or (bit_or (full p) (full q)) (full r)) (full s)) ≡ p || q || r || s
top_of_four true true true true = refl
top_of_four true true true false = refl
top_of_four true true false true = refl
top_of_four true true false false = refl
top_of_four true false true true = refl
top_of_four true false true false = refl
top_of_four true false false true = refl
top_of_four true false false false = refl
top_of_four false true true true = refl
top_of_four false true true false = refl
top_of_four false true false true = refl
top_of_four false true false false = refl
top_of_four false false true true = refl
top_of_four false false true false = refl
top_of_four false false false true = refl
top_of_four false false false false = refl

pub four : (a b c d p q r s : ℤ) → FitsSigned w32 a → FitsSigned w32 b → FitsSigned w32 c → FitsSigned w32 d → FitsSigned w32 p → FitsSigned w32 q → FitsSigned w32 r → FitsSigned w32 s
    → int_lt (to_z w32 (of_z w32 p)) (to_z w32 (of_z w32 a)) || int_lt (to_z w32 (of_z w32 q)) (to_z w32 (of_z w32 b)) || int_lt (to_z w32 (of_z w32 c)) (to_z w32 (of_z w32 r)) || int_lt (to_z w32 (of_z w32 d)) (to_z w32 (of_z w32 s))
    ≡ int_lt p a || int_lt q b || int_lt c r || int_lt d s
four a b c d p q r s fa fb fc fd fp fq fr fs = simp to_z-of_z

-- ---- the bits of sixteen tests
pub sixteen_small : (p : ℕ → Bool) (at : ℕ) → sixteen p at < 65536
unfolding sixteen
sixteen_small p at = let a = mask_l-lt (map p (range_with_len at 16)) in let l = length-map-range_with_len p at 16 in subst (λ n. mask_l (map p (range_with_len at 16)) < 2 ^ n) l a

pub sixteen_bit : (p : ℕ → Bool) (at k : ℕ) → k < 16 → bit_at (sixteen p at) k ≡ cond (p (at + k)) 1 0
unfolding sixteen
sixteen_bit p at k l = bit_mask_l (map p (range_with_len at 16)) k ∙ ap (λ (b : Bool). cond {A = ℕ} b 1 0) (get_or-map-range_with_len p at 16 k (at + k) false l refl)
