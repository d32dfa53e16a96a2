-- The nearest whole number to z / n, by inequalities without a quotient.
use Rattle.std.proofs.Common.{◌≡◌, ℕ, ◌+◌, ◌*◌, ◌≤◌, ◌<◌, [], ◌∷◌, refl, arith}
use Rattle.std.proofs.Math.IntN.{ℤ, pos, negsuc, ◌+ℤ◌, ◌-ℤ◌, ◌*ℤ◌}
use Rattle.std.specs.Prelude.{◌<ℤ◌, ◌≤ℤ◌}
use Rattle.std.specs.Int.{int_div_euclid}
use Rattle.std.proofs.lemmas.Int.{ints}
use borrow.Author.Differences.{up, down}
use Rattle.geom.proofs.Integers.{linear, cancel_pos}
use Rattle.geom.proofs.Identity.{var, num, ◌⊕◌, ◌⊖◌, ◌⊗◌, ring}
use Rattle.geom.specs.Pixel.{nearest}

-- n (2 q - 1) ≤ 2 z < n (2 q + 1)
pub record IsNearest (z n q : ℤ) : Type 0 where
  pub low : (n *ℤ ((pos 2 *ℤ q) -ℤ pos 1)) ≤ℤ (pos 2 *ℤ z)
  pub high : (pos 2 *ℤ z) <ℤ (n *ℤ ((pos 2 *ℤ q) +ℤ pos 1))

-- the quotient q that rounds down has k * q ≤ a < k * q + k
pub quotient-parts : (a : ℤ) (k : ℕ) → 0 < k → (up (int_div_euclid a (pos k)) * k + down a ≤ down (int_div_euclid a (pos k)) * k + up a) × (down (int_div_euclid a (pos k)) * k + up a < up (int_div_euclid a (pos k)) * k + down a + k)
quotient-parts (pos a) k h = omega arith
quotient-parts (negsuc a) k h = omega arith

low_terms : (n q : ℤ) → n *ℤ ((pos 2 *ℤ q) -ℤ pos 1) ≡ (pos 2 *ℤ (n *ℤ q)) -ℤ n
low_terms n q = ring (n ∷ q ∷ []) (var 0 ⊗ ((num (pos 2) ⊗ var 1) ⊖ num (pos 1))) ((num (pos 2) ⊗ (var 0 ⊗ var 1)) ⊖ var 0) refl

high_terms : (n q : ℤ) → n *ℤ ((pos 2 *ℤ q) +ℤ pos 1) ≡ (pos 2 *ℤ (n *ℤ q)) +ℤ n
high_terms n q = ring (n ∷ q ∷ []) (var 0 ⊗ ((num (pos 2) ⊗ var 1) ⊕ num (pos 1))) ((num (pos 2) ⊗ (var 0 ⊗ var 1)) ⊕ var 0) refl

from_parts : (z q : ℤ) (k : ℕ) (a : ℤ) → a ≡ (pos 2 *ℤ z) +ℤ pos k → (up q * (2 * k) + down a ≤ down q * (2 * k) + up a) × (down q * (2 * k) + up a < up q * (2 * k) + down a + 2 * k) → IsNearest z (pos k) q
from_parts z q k a e h = record {
  low = rw low_terms (omega (arith, ints));
  high = rw high_terms (omega (arith, ints));
}

pub nearest-is : (z n : ℤ) → pos 0 <ℤ n → IsNearest z n (nearest z n)
nearest-is z (pos k) h = from_parts z (nearest z (pos k)) k ((pos 2 *ℤ z) +ℤ pos k) refl (quotient-parts ((pos 2 *ℤ z) +ℤ pos k) (2 * k) (omega (arith, ints)))
nearest-is z (negsuc k) h = absurd (omega (arith, ints))

-- n * a ≤ z < n * b has a < b
pub below_of_products : (n a b z : ℤ) → pos 0 <ℤ n → (n *ℤ a) ≤ℤ z → z <ℤ (n *ℤ b) → a <ℤ b
below_of_products n a b z h p q =
    let e : n *ℤ (b -ℤ a) ≡ (n *ℤ b) -ℤ (n *ℤ a) = ring (n ∷ a ∷ b ∷ []) (var 0 ⊗ (var 2 ⊖ var 1)) ((var 0 ⊗ var 2) ⊖ (var 0 ⊗ var 1)) refl in
    let f : pos 0 <ℤ (n *ℤ (b -ℤ a)) = rw e (omega (arith, linear)) in
    let g : pos 0 <ℤ (b -ℤ a) = cancel_pos n (b -ℤ a) h f in
    omega (arith, linear)

pub IsNearest-unique : (z n q r : ℤ) → pos 0 <ℤ n → IsNearest z n q → IsNearest z n r → q ≡ r
IsNearest-unique z n q r h a b =
    let s = below_of_products (n) ((pos 2 *ℤ q) -ℤ pos 1) ((pos 2 *ℤ r) +ℤ pos 1) (pos 2 *ℤ z) h a.low b.high in
    let t = below_of_products (n) ((pos 2 *ℤ r) -ℤ pos 1) ((pos 2 *ℤ q) +ℤ pos 1) (pos 2 *ℤ z) h b.low a.high in
    omega (arith, ints, s, t)

pub nearest-unique : (z n q : ℤ) → pos 0 <ℤ n → IsNearest z n q → nearest z n ≡ q
nearest-unique z n q h a = IsNearest-unique z n (nearest z n) q h (nearest-is z n h) a

-- between two whole numbers, the nearest is between them
pub nearest_between : (z n a b : ℤ) → pos 0 <ℤ n → (n *ℤ a) ≤ℤ z → z ≤ℤ (n *ℤ b) → (a ≤ℤ nearest z n) × (nearest z n ≤ℤ b)
nearest_between z n a b h lo hi =
    let i = nearest-is z n h in
    let q = nearest z n in
    let s = below_of_products (n) ((pos 2 *ℤ a) -ℤ pos 1) ((pos 2 *ℤ nearest z n) +ℤ pos 1) (pos 2 *ℤ z) h (rw low_terms (omega (arith, ints))) i.high in
    let t = below_of_products (n) ((pos 2 *ℤ nearest z n) -ℤ pos 1) ((pos 2 *ℤ b) +ℤ pos 1) (pos 2 *ℤ z) h i.low (rw high_terms (omega (arith, ints))) in
    between (nearest z n) a b s t
  where
    between : (q a b : ℤ) → ((pos 2 *ℤ a) -ℤ pos 1) <ℤ ((pos 2 *ℤ q) +ℤ pos 1) → ((pos 2 *ℤ q) -ℤ pos 1) <ℤ ((pos 2 *ℤ b) +ℤ pos 1) → (a ≤ℤ q) × (q ≤ℤ b)
    between q a b s t = (omega (arith, ints), omega (arith, ints))
