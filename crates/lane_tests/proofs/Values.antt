-- Lanes that hold signed numbers, computed from the numbers of the elements.
use Rattle.std.proofs.Common.{◌≡◌, ℕ, ◌+◌, ◌-◌, ◌*◌, ◌%◌, ◌^◌, ◌<◌, ◌≤◌, Bool, true, false, cond, ◌&&◌, List, [], ◌∷◌, map, length, get_or, take, drop, refl, sym, ap, ◌∙◌, arith, w8, w32, w64, FitsSigned, to_z, of_z, ℤ, pos, negsuc, ◌+ℤ◌, ◌-ℤ◌, ◌*ℤ◌, to_z-of_z}
use Rattle.lane_tests.specs.Sides.{sign}
use Rattle.std.proofs.lemmas.Int.{ints, by_lt_z, of_z-to_z, int_wrap_fits, wrapping_add_is, wrapping_sub_is, wrapping_mul_is}
use mir.Syntax.{Width}
use mir.Val.{bits}
use Rattle.std.specs.Prelude.{int_lt, int_le, bit_and}
use lib.Lanes.{mask_l, top, zip2, Each1, sel_l}
use Rattle.std.proofs.lemmas.Simd.{map-map}
use Rattle.std.specs.List.{range_with_len}
use Rattle.std.proofs.Math.Nat.{mod-lt}
use Rattle.std.proofs.lemmas.Nat.{pow_pos}
use Rattle.lane_tests.specs.Columns.{mask_of, IsColumn}
use Rattle.lane_tests.proofs.Lanes.{AreLanes, column, splat, both, each, mask_is, full32}
use Rattle.geom.proofs.Tests.{lt_yes, lt_no}
use Rattle.geom.proofs.Numbers.{weak}

-- the bits of the value of each lane
pub record AreValues (w : Width) (at : ℕ) (v : ℕ → ℤ) (z : List ℕ) : Type 0 where
  pub lanes : AreLanes at (λ k. of_z w (v k)) z
  pub fits : (k : ℕ) → FitsSigned w (v k)

pub from_column : (xs : List ℤ) (at : ℕ) → at + 8 ≤ length xs → IsColumn xs → AreValues w32 at (λ k. get_or xs k (pos 0)) (map (of_z w32) (take 8 (drop at xs)))
from_column xs at room h = record { lanes = column xs at room; fits = h.fits }

pub from_splat : (w : Width) (at : ℕ) (y : ℤ) → FitsSigned w y → AreValues w at (λ _. y) (of_z w y ∷ of_z w y ∷ of_z w y ∷ of_z w y ∷ of_z w y ∷ of_z w y ∷ of_z w y ∷ of_z w y ∷ [])
from_splat w at y h = record { lanes = splat at (of_z w y); fits = λ _. h }

-- the numbers of lanes, and lanes of numbers
pub numbers : {w : Width} {at : ℕ} {v : ℕ → ℤ} {z : List ℕ} → AreValues w at v z → map (to_z w) z ≡ map v (range_with_len at 8)
numbers {w} {at} {v} a = ap (map (to_z w)) a.lanes.is ∙ map-map (to_z w) (λ k. of_z w (v k)) (range_with_len at 8) ∙ (λ i. map (λ k. to_z-of_z (a.fits k) i) (range_with_len at 8))

pub from_numbers : (w : Width) (at : ℕ) (v : ℕ → ℤ) (xs : List ℤ) → ((k : ℕ) → FitsSigned w (v k)) → xs ≡ map v (range_with_len at 8) → AreValues w at v (map (of_z w) xs)
from_numbers w at v xs h e = record { lanes = record { is = ap (map (of_z w)) e ∙ map-map (of_z w) v (range_with_len at 8) }; fits = h }

relane : {at : ℕ} {f g : ℕ → ℕ} {z : List ℕ} → ((k : ℕ) → f k ≡ g k) → AreLanes at f z → AreLanes at g z
relane {at} h a = record { is = a.is ∙ (λ i. map (λ k. h k i) (range_with_len at 8)) }

each_of_map : (P : ℕ → Type 0) (f : ℕ → ℕ) (ks : List ℕ) → ((k : ℕ) → P (f k)) → Each1 P (map f ks)
each_of_map P f [] h = tt
each_of_map P f (k ∷ ks) h = (h k, each_of_map P f ks h)

-- what holds of each value holds of each lane
pub each_lane : (P : ℕ → Type 0) {w : Width} {at : ℕ} {v : ℕ → ℤ} {z : List ℕ} → AreValues w at v z → ((k : ℕ) → P (of_z w (v k))) → Each1 P z
each_lane P {w} {at} {v} a h = rw a.lanes.is (each_of_map P (λ k. of_z w (v k)) (range_with_len at 8) h)

positive : (w : Width) → 0 < 2 ^ bits w
positive w = pow_pos (bits w)

sub_bits : (w : Width) (a b : ℤ) → FitsSigned w a → FitsSigned w b → FitsSigned w (a -ℤ b) → (of_z w a + (2 ^ bits w - of_z w b)) % 2 ^ bits w ≡ of_z w (a -ℤ b)
sub_bits w a b f g h =
    sym (of_z-to_z w _ (mod-lt _ (positive w))) ∙ ap (of_z w) (wrapping_sub_is w a b f g ∙ int_wrap_fits w (a -ℤ b) h)

add_bits : (w : Width) (a b : ℤ) → FitsSigned w a → FitsSigned w b → FitsSigned w (a +ℤ b) → (of_z w a + of_z w b) % 2 ^ bits w ≡ of_z w (a +ℤ b)
add_bits w a b f g h =
    sym (of_z-to_z w _ (mod-lt _ (positive w))) ∙ ap (of_z w) (wrapping_add_is w a b f g ∙ int_wrap_fits w (a +ℤ b) h)

mul_bits : (w : Width) (a b : ℤ) → FitsSigned w a → FitsSigned w b → FitsSigned w (a *ℤ b) → (of_z w a * of_z w b) % 2 ^ bits w ≡ of_z w (a *ℤ b)
mul_bits w a b f g h =
    sym (of_z-to_z w _ (mod-lt _ (positive w))) ∙ ap (of_z w) (wrapping_mul_is w a b f g ∙ int_wrap_fits w (a *ℤ b) h)

pub minus : (w : Width) {at : ℕ} {u v : ℕ → ℤ} {z y : List ℕ} → AreValues w at u z → AreValues w at v y → ((k : ℕ) → FitsSigned w (u k -ℤ v k))
    → AreValues w at (λ k. u k -ℤ v k) (zip2 (λ a b. (a + (2 ^ bits w - b)) % 2 ^ bits w) z y)
minus w {at} {u} {v} a b h = record { lanes = relane (λ k. sub_bits w (u k) (v k) (a.fits k) (b.fits k) (h k)) (both (λ a b. (a + (2 ^ bits w - b)) % 2 ^ bits w) a.lanes b.lanes); fits = h }

pub plus : (w : Width) {at : ℕ} {u v : ℕ → ℤ} {z y : List ℕ} → AreValues w at u z → AreValues w at v y → ((k : ℕ) → FitsSigned w (u k +ℤ v k))
    → AreValues w at (λ k. u k +ℤ v k) (zip2 (λ a b. (a + b) % 2 ^ bits w) z y)
plus w {at} {u} {v} a b h = record { lanes = relane (λ k. add_bits w (u k) (v k) (a.fits k) (b.fits k) (h k)) (both (λ a b. (a + b) % 2 ^ bits w) a.lanes b.lanes); fits = h }

pub times : (w : Width) {at : ℕ} {u v : ℕ → ℤ} {z y : List ℕ} → AreValues w at u z → AreValues w at v y → ((k : ℕ) → FitsSigned w (u k *ℤ v k))
    → AreValues w at (λ k. u k *ℤ v k) (zip2 (λ a b. (a * b) % 2 ^ bits w) z y)
times w {at} {u} {v} a b h = record { lanes = relane (λ k. mul_bits w (u k) (v k) (a.fits k) (b.fits k) (h k)) (both (λ a b. (a * b) % 2 ^ bits w) a.lanes b.lanes); fits = h }

-- a product that the code made of two numbers
pub prod : (r a b x y : ℤ) → FitsSigned w32 a → FitsSigned w32 b → a ≡ x → b ≡ y → r ≡ to_z w32 (of_z w32 a) *ℤ to_z w32 (of_z w32 b) → r ≡ x *ℤ y
prod r a b x y f g d e h = let k : r ≡ a *ℤ b = simp to_z-of_z at h in k ∙ (λ i. d i *ℤ e i)

pub wide_fits : (z : ℤ) → FitsSigned w32 z → FitsSigned w64 z
wide_fits z h = omega (arith, ints)

pub widened : {at : ℕ} {v : ℕ → ℤ} {z : List ℕ} → AreValues w32 at v z → AreValues w64 at v (map (λ n. of_z w64 (to_z w32 n)) z)
widened {at} {v} a = record {
  lanes = relane (λ k. ap (of_z w64) (to_z-of_z (a.fits k))) (each (λ n. of_z w64 (to_z w32 n)) a.lanes);
  fits = λ k. wide_fits (v k) (a.fits k);
}

abbrev pub full64 : Bool → ℕ
full64 p = cond p 18446744073709551615 0

top_full64 : (p : Bool) → top 63 (full64 p) ≡ p
top_full64 true = refl
top_full64 false = refl

top_of_two : (p q : Bool) → top 31 (bit_and (full32 p) (full32 q)) ≡ p && q
top_of_two true true = refl
top_of_two true false = refl
top_of_two false true = refl
top_of_two false false = refl

lt_back : (w : Width) (a b : ℤ) → FitsSigned w a → FitsSigned w b → int_lt (to_z w (of_z w a)) (to_z w (of_z w b)) ≡ int_lt a b
lt_back w a b f g = simp to_z-of_z

le_back : (w : Width) (a b : ℤ) → FitsSigned w a → FitsSigned w b → int_le (to_z w (of_z w a)) (to_z w (of_z w b)) ≡ int_le a b
le_back w a b f g = simp to_z-of_z

-- the mask of a comparison of 64-bit lanes
pub less64 : {at : ℕ} {u v : ℕ → ℤ} {z y : List ℕ} → AreValues w64 at u z → AreValues w64 at v y
    → mask_l (map (top 63) (zip2 (λ a b. full64 (int_lt (to_z w64 a) (to_z w64 b))) z y)) % 2 ^ 64 ≡ mask_of (λ k. int_lt (u k) (v k)) at
unfolding mask_of
less64 {at} {u} {v} a b = mask_is 63 (λ k. int_lt (u k) (v k)) (both (λ a b. full64 (int_lt (to_z w64 a) (to_z w64 b))) a.lanes b.lanes)
    (λ k. top_full64 (int_lt (to_z w64 (of_z w64 (u k))) (to_z w64 (of_z w64 (v k)))) ∙ lt_back w64 (u k) (v k) (a.fits k) (b.fits k))

pub at_most64 : {at : ℕ} {u v : ℕ → ℤ} {z y : List ℕ} → AreValues w64 at u z → AreValues w64 at v y
    → mask_l (map (top 63) (zip2 (λ a b. full64 (int_le (to_z w64 a) (to_z w64 b))) z y)) % 2 ^ 64 ≡ mask_of (λ k. int_le (u k) (v k)) at
unfolding mask_of
at_most64 {at} {u} {v} a b = mask_is 63 (λ k. int_le (u k) (v k)) (both (λ a b. full64 (int_le (to_z w64 a) (to_z w64 b))) a.lanes b.lanes)
    (λ k. top_full64 (int_le (to_z w64 (of_z w64 (u k))) (to_z w64 (of_z w64 (v k)))) ∙ le_back w64 (u k) (v k) (a.fits k) (b.fits k))

-- of two comparisons of 32-bit lanes, at most and less
pub between32 : {at : ℕ} {u v x y : ℕ → ℤ} {z₁ z₂ z₃ z₄ : List ℕ} → AreValues w32 at u z₁ → AreValues w32 at v z₂ → AreValues w32 at x z₃ → AreValues w32 at y z₄
    → mask_l (map (top 31) (zip2 bit_and (zip2 (λ a b. full32 (int_le (to_z w32 a) (to_z w32 b))) z₁ z₂) (zip2 (λ a b. full32 (int_lt (to_z w32 a) (to_z w32 b))) z₃ z₄))) % 2 ^ 64
    ≡ mask_of (λ k. int_le (u k) (v k) && int_lt (x k) (y k)) at
unfolding mask_of
between32 {at} {u} {v} {x} {y} a b c d = mask_is 31 (λ k. int_le (u k) (v k) && int_lt (x k) (y k))
    (both bit_and (both (λ a b. full32 (int_le (to_z w32 a) (to_z w32 b))) a.lanes b.lanes) (both (λ a b. full32 (int_lt (to_z w32 a) (to_z w32 b))) c.lanes d.lanes))
    (λ k. top_of_two (int_le (to_z w32 (of_z w32 (u k))) (to_z w32 (of_z w32 (v k)))) (int_lt (to_z w32 (of_z w32 (x k))) (to_z w32 (of_z w32 (y k))))
    ∙ (λ i. le_back w32 (u k) (v k) (a.fits k) (b.fits k) i && lt_back w32 (x k) (y k) (c.fits k) (d.fits k) i))

back_fits : (z : ℤ) → FitsSigned w32 z → FitsSigned w64 (to_z w32 (of_z w32 z))
back_fits z h = rw (to_z-of_z h) (wide_fits z h)

-- the lanes may be cast to 64 bits
pub castable : {at : ℕ} {v : ℕ → ℤ} {z : List ℕ} → AreValues w32 at v z → Each1 (λ n. FitsSigned w64 (to_z w32 n)) z
castable {at} {v} a = each_lane (λ n. FitsSigned w64 (to_z w32 n)) a (λ k. back_fits (v k) (a.fits k))

-- ---- signs
abbrev pub minus_one : Bool → ℤ
minus_one p = cond p (negsuc 0) (pos 0)

abbrev pub chosen64 : List ℕ → List ℕ
chosen64 z = sel_l (map (top 63) z) (18446744073709551615 ∷ 18446744073709551615 ∷ 18446744073709551615 ∷ 18446744073709551615 ∷ 18446744073709551615 ∷ 18446744073709551615 ∷ 18446744073709551615 ∷ 18446744073709551615 ∷ []) (0 ∷ 0 ∷ 0 ∷ 0 ∷ 0 ∷ 0 ∷ 0 ∷ 0 ∷ [])

chosen_lanes : {at : ℕ} {f : ℕ → ℕ} {z : List ℕ} → AreLanes at f z → AreLanes at (λ k. full64 (top 63 (f k))) (chosen64 z)
chosen_lanes a = record { is = ap chosen64 a.is }

full_is : (p : Bool) → full64 p ≡ of_z w64 (minus_one p)
full_is true = refl
full_is false = refl

minus_one_fits : (p : Bool) → FitsSigned w64 (minus_one p)
minus_one_fits true = record { sfits = omega arith }
minus_one_fits false = record { sfits = omega arith }

-- -1 where the comparison holds
pub less_values : {at : ℕ} {u v : ℕ → ℤ} {z y : List ℕ} → AreValues w64 at u z → AreValues w64 at v y
    → AreValues w64 at (λ k. minus_one (int_lt (u k) (v k))) (chosen64 (zip2 (λ a b. full64 (int_lt (to_z w64 a) (to_z w64 b))) z y))
less_values {at} {u} {v} a b = record {
  lanes = relane (λ k. ap full64 (top_full64 (int_lt (to_z w64 (of_z w64 (u k))) (to_z w64 (of_z w64 (v k)))) ∙ lt_back w64 (u k) (v k) (a.fits k) (b.fits k)) ∙ full_is (int_lt (u k) (v k)))
      (chosen_lanes (both (λ a b. full64 (int_lt (to_z w64 a) (to_z w64 b))) a.lanes b.lanes));
  fits = λ k. minus_one_fits (int_lt (u k) (v k));
}

-- the sign of u - v
abbrev pub sign_of : ℤ → ℤ → ℤ
sign_of u v = minus_one (int_lt u v) -ℤ minus_one (int_lt v u)

sign_is : (u v : ℤ) → sign_of u v ≡ sign u v
sign_is u v = by_lt_z u v
    (λ h. rw (lt_yes u v h, lt_no v u (weak u v h)) refl)
    (λ h. rw (lt_no u v h) (by_lt_z v u (λ k. rw (lt_yes v u k) refl) (λ k. rw (lt_no v u k) refl)))

small8 : (p q : Bool) → FitsSigned w8 (minus_one p -ℤ minus_one q)
small8 true true = record { sfits = omega arith }
small8 true false = record { sfits = omega arith }
small8 false true = record { sfits = omega arith }
small8 false false = record { sfits = omega arith }

small64 : (p q : Bool) → FitsSigned w64 (minus_one p -ℤ minus_one q)
small64 true true = record { sfits = omega arith }
small64 true false = record { sfits = omega arith }
small64 false true = record { sfits = omega arith }
small64 false false = record { sfits = omega arith }

-- lanes with the signs of u - v
pub record AreSigns (at : ℕ) (u v : ℕ → ℤ) (z : List ℕ) : Type 0 where
  pub values : AreValues w64 at (λ k. sign_of (u k) (v k)) z

pub signs64 : {at : ℕ} {u v : ℕ → ℤ} {z y : List ℕ} → AreValues w64 at u z → AreValues w64 at v y
    → AreSigns at u v (zip2 (λ a b. (a + (2 ^ bits w64 - b)) % 2 ^ bits w64) (chosen64 (zip2 (λ a b. full64 (int_lt (to_z w64 a) (to_z w64 b))) z y)) (chosen64 (zip2 (λ a b. full64 (int_lt (to_z w64 a) (to_z w64 b))) y z)))
signs64 {at} {u} {v} a b = record { values = minus w64 (less_values a b) (less_values b a) (λ k. small64 (int_lt (u k) (v k)) (int_lt (v k) (u k))) }

pub signs_castable : {at : ℕ} {u v : ℕ → ℤ} {z : List ℕ} → AreSigns at u v z → Each1 (λ n. FitsSigned w8 (to_z w64 n)) z
signs_castable {at} {u} {v} a = each_lane (λ n. FitsSigned w8 (to_z w64 n)) a.values (λ k. rw (to_z-of_z (a.values.fits k)) (small8 (int_lt (u k) (v k)) (int_lt (v k) (u k))))

sign_back : (u v : ℤ) → FitsSigned w64 (sign_of u v) → to_z w8 (of_z w8 (to_z w64 (of_z w64 (sign_of u v)))) ≡ sign u v
sign_back u v h = ap (λ z. to_z w8 (of_z w8 z)) (to_z-of_z h) ∙ to_z-of_z (small8 (int_lt u v) (int_lt v u)) ∙ sign_is u v

-- the lanes as numbers
pub signs8 : {at : ℕ} {u v : ℕ → ℤ} {z : List ℕ} → AreSigns at u v z → map (to_z w8) (map (λ n. of_z w8 (to_z w64 n)) z) ≡ map (λ k. sign (u k) (v k)) (range_with_len at 8)
signs8 {at} {u} {v} {z} a =
    map-map (to_z w8) (λ n. of_z w8 (to_z w64 n)) z ∙ ap (map (λ n. to_z w8 (of_z w8 (to_z w64 n)))) a.values.lanes.is ∙ map-map (λ n. to_z w8 (of_z w8 (to_z w64 n))) (λ k. of_z w64 (sign_of (u k) (v k))) (range_with_len at 8)
    ∙ (λ i. map (λ k. sign_back (u k) (v k) (a.values.fits k) i) (range_with_len at 8))
