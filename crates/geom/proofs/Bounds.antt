-- Bounds of absolute values, and what fits an integer type.
use Rattle.std.proofs.Common.{◌≡◌, ℕ, ◌+◌, ◌*◌, ◌^◌, ◌<◌, [], ◌∷◌, refl, sym, ◌∙◌, arith, w64, FitsSigned, to_z, of_z, to_z-of_z, lit<}
use Rattle.std.proofs.Math.IntN.{ℤ, pos, ◌+ℤ◌, ◌-ℤ◌, ◌*ℤ◌, neg_ℤ, pos-*ℤ-pos}
use Rattle.std.specs.Prelude.{◌<ℤ◌, ◌≤ℤ◌, true, false}
use Rattle.std.specs.Int.{w128}
use lib.Signed.{lt_z, le_z}
use Rattle.std.proofs.lemmas.Int.{ints}
use Rattle.geom.proofs.Integers.{linear, mul_nonneg}
use Rattle.geom.proofs.Identity.{var, num, ◌⊕◌, ◌⊖◌, ◌⊗◌, ring}
use Rattle.geom.specs.Limit.{IsWithin, coordinate_limit}
use Rattle.geom.specs.Determinant.{determinant}

upper_product : (m n a b : ℤ) → ((m -ℤ a) *ℤ (n +ℤ b)) +ℤ ((m +ℤ a) *ℤ (n -ℤ b)) ≡ pos 2 *ℤ ((m *ℤ n) -ℤ (a *ℤ b))
upper_product m n a b = ring (m ∷ n ∷ a ∷ b ∷ []) (((var 0 ⊖ var 2) ⊗ (var 1 ⊕ var 3)) ⊕ ((var 0 ⊕ var 2) ⊗ (var 1 ⊖ var 3))) (num (pos 2) ⊗ ((var 0 ⊗ var 1) ⊖ (var 2 ⊗ var 3))) refl

lower_product : (m n a b : ℤ) → ((m -ℤ a) *ℤ (n -ℤ b)) +ℤ ((m +ℤ a) *ℤ (n +ℤ b)) ≡ pos 2 *ℤ ((m *ℤ n) +ℤ (a *ℤ b))
lower_product m n a b = ring (m ∷ n ∷ a ∷ b ∷ []) (((var 0 ⊖ var 2) ⊗ (var 1 ⊖ var 3)) ⊕ ((var 0 ⊕ var 2) ⊗ (var 1 ⊕ var 3))) (num (pos 2) ⊗ ((var 0 ⊗ var 1) ⊕ (var 2 ⊗ var 3))) refl

pub product_within : (m n : ℕ) (a b : ℤ) → IsWithin m a → IsWithin n b → IsWithin (m * n) (a *ℤ b)
product_within m n a b h k =
    let e : pos m *ℤ pos n ≡ pos (m * n) = pos-*ℤ-pos m n in
    let p = mul_nonneg (pos m -ℤ a) (pos n +ℤ b) (omega (arith, linear)) (omega (arith, linear)) in
    let q = mul_nonneg (pos m +ℤ a) (pos n -ℤ b) (omega (arith, linear)) (omega (arith, linear)) in
    let r = mul_nonneg (pos m -ℤ a) (pos n -ℤ b) (omega (arith, linear)) (omega (arith, linear)) in
    let s = mul_nonneg (pos m +ℤ a) (pos n +ℤ b) (omega (arith, linear)) (omega (arith, linear)) in
    let u = upper_product (pos m) (pos n) a b in
    let l = lower_product (pos m) (pos n) a b in
    record {
      low = half_up (pos m *ℤ pos n) (a *ℤ b) (m * n) e _ _ r s l;
      high = half_down (pos m *ℤ pos n) (a *ℤ b) (m * n) e _ _ p q u;
    }
  where
    half_up : (x y : ℤ) (k : ℕ) → x ≡ pos k → (r s : ℤ) → pos 0 ≤ℤ r → pos 0 ≤ℤ s → r +ℤ s ≡ pos 2 *ℤ (x +ℤ y) → neg_ℤ (pos k) ≤ℤ y
    half_up x y k e r s h g l = omega (arith, ints)

    half_down : (x y : ℤ) (k : ℕ) → x ≡ pos k → (r s : ℤ) → pos 0 ≤ℤ r → pos 0 ≤ℤ s → r +ℤ s ≡ pos 2 *ℤ (x -ℤ y) → y ≤ℤ pos k
    half_down x y k e r s h g l = omega (arith, ints)

pub difference_within : (m n : ℕ) (a b : ℤ) → IsWithin m a → IsWithin n b → IsWithin (m + n) (a -ℤ b)
difference_within m n a b h k = record { low = omega (arith, linear); high = omega (arith, linear) }

pub sum_within : (m n : ℕ) (a b : ℤ) → IsWithin m a → IsWithin n b → IsWithin (m + n) (a +ℤ b)
sum_within m n a b h k = record { low = omega (arith, linear); high = omega (arith, linear) }

pub fits_64 : (n : ℕ) (z : ℤ) → n < 2 ^ 63 → IsWithin n z → FitsSigned w64 z
fits_64 n z h k = omega (arith, ints)

-- what the code computes for a determinant is the determinant
pub determinant_fits : (dx dy ex ey : ℤ) → IsWithin (2 ^ 29) dx → IsWithin (2 ^ 29) dy → IsWithin (2 ^ 29) ex → IsWithin (2 ^ 29) ey
    → IsWithin (2 ^ 59) (determinant dx dy ex ey)
determinant_fits dx dy ex ey a b c d =
    let p = product_within (2 ^ 29) (2 ^ 29) dx ey a d in
    let q = product_within (2 ^ 29) (2 ^ 29) dy ex b c in
    difference_within (2 ^ 58) (2 ^ 58) (dx *ℤ ey) (dy *ℤ ex) p q

pub determinant_back : (P : ℤ → Type 0) (m n : ℕ) → m < 2 ^ 63 → n < 2 ^ 63 → m * n < 2 ^ 63 → (dx dy ex ey : ℤ) → IsWithin m dx → IsWithin m dy → IsWithin n ex → IsWithin n ey → P (determinant dx dy ex ey)
    → P (to_z w64 (of_z w64 (to_z w64 (of_z w64 dx) *ℤ to_z w64 (of_z w64 ey))) -ℤ to_z w64 (of_z w64 (to_z w64 (of_z w64 dy) *ℤ to_z w64 (of_z w64 ex))))
determinant_back P m n l k j dx dy ex ey a b c d t =
    let fdx : FitsSigned w64 dx = fits_64 m dx l a in
    let fdy : FitsSigned w64 dy = fits_64 m dy l b in
    let fex : FitsSigned w64 ex = fits_64 n ex k c in
    let fey : FitsSigned w64 ey = fits_64 n ey k d in
    let p : FitsSigned w64 (dx *ℤ ey) = fits_64 (m * n) (dx *ℤ ey) j (product_within m n dx ey a d) in
    let q : FitsSigned w64 (dy *ℤ ex) = fits_64 (m * n) (dy *ℤ ex) j (product_within m n dy ex b c) in
    simp to_z-of_z t

-- a product of two small numbers that the code made
pub product_back : (r x y : ℤ) → IsWithin (2 ^ 29) x → IsWithin (2 ^ 29) y → r ≡ to_z w64 (of_z w64 x) *ℤ to_z w64 (of_z w64 y) → to_z w64 (of_z w64 r) ≡ x *ℤ y
product_back r x y a b e =
    let f : FitsSigned w64 x = fits_64 _ x (lit< tt) a in
    let g : FitsSigned w64 y = fits_64 _ y (lit< tt) b in
    let p : FitsSigned w64 (x *ℤ y) = fits_64 _ _ (lit< tt) (product_within (2 ^ 29) (2 ^ 29) x y a b) in
    let e' : r ≡ x *ℤ y = simp to_z-of_z at e in
    rw e' (to_z-of_z p)

-- a comparison of computed numbers
pub less : (u v x y : ℤ) → u ≡ x → v ≡ y → lt_z u v ≡ true → x <ℤ y
less u v x y e f h = omega (arith, linear)

pub not_less : (u v x y : ℤ) → u ≡ x → v ≡ y → lt_z u v ≡ false → y ≤ℤ x
not_less u v x y e f h = omega (arith, linear)

pub test_less : (u v x y : ℤ) → u ≡ x → v ≡ y → x <ℤ y → lt_z u v ≡ true
test_less u v x y e f h = let t : true ≡ lt_z u v = omega (arith, ints) in sym t

pub test_at_most : (u v x y : ℤ) → u ≡ x → v ≡ y → x ≤ℤ y → le_z u v ≡ true
test_at_most u v x y e f h = let t : true ≡ le_z u v = omega (arith, ints) in sym t

pub at_most : (u v x y : ℤ) → u ≡ x → v ≡ y → le_z u v ≡ true → x ≤ℤ y
at_most u v x y e f h = omega (arith, linear)

-- any two numbers of 64 bits have a product of 128
pub fits_within : (x : ℤ) → FitsSigned w64 x → IsWithin (2 ^ 63) x
fits_within x h = record { low = omega (arith, ints); high = omega (arith, ints) }

pub fits_128 : (n : ℕ) (z : ℤ) → n < 2 ^ 127 → IsWithin n z → FitsSigned w128 z
fits_128 n z h k = omega (arith, ints)

pub wide_product_back : (x y u v : ℤ) → FitsSigned w64 x → FitsSigned w64 y → u ≡ to_z w64 (of_z w64 x) → v ≡ to_z w64 (of_z w64 y) → to_z w128 (of_z w128 (to_z w128 (of_z w128 u) *ℤ to_z w128 (of_z w128 v))) ≡ x *ℤ y
wide_product_back x y u v f g e h =
    let a : u ≡ x = e ∙ to_z-of_z f in
    let b : v ≡ y = h ∙ to_z-of_z g in
    let x' : FitsSigned w128 x = fits_128 (2 ^ 63) x (lit< tt) (fits_within x f) in
    let y' : FitsSigned w128 y = fits_128 (2 ^ 63) y (lit< tt) (fits_within y g) in
    let p : FitsSigned w128 (x *ℤ y) = fits_128 _ _ (lit< tt) (product_within (2 ^ 63) (2 ^ 63) x y (fits_within x f) (fits_within y g)) in
    rw (a, b) (simp to_z-of_z)

pub wide_product_fits : (x y u v : ℤ) → FitsSigned w64 x → FitsSigned w64 y → u ≡ to_z w64 (of_z w64 x) → v ≡ to_z w64 (of_z w64 y) → FitsSigned w128 (to_z w128 (of_z w128 u) *ℤ to_z w128 (of_z w128 v))
wide_product_fits x y u v f g e h =
    let a : u ≡ x = e ∙ to_z-of_z f in
    let b : v ≡ y = h ∙ to_z-of_z g in
    let x' : FitsSigned w128 x = fits_128 (2 ^ 63) x (lit< tt) (fits_within x f) in
    let y' : FitsSigned w128 y = fits_128 (2 ^ 63) y (lit< tt) (fits_within y g) in
    rw (a, b) (simp to_z-of_z (fits_128 _ _ (lit< tt) (product_within (2 ^ 63) (2 ^ 63) x y (fits_within x f) (fits_within y g))))

-- the coordinate limit is 2 ^ 28
pub within_room : (z : ℤ) → IsWithin coordinate_limit z → IsWithin (2 ^ 28) z
within_room z h = record { low = omega (arith, ints); high = omega (arith, ints) }
