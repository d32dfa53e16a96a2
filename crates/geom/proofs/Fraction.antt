-- The order of fractions with positive denominators, a / b against c / d by a d and c b.
use Rattle.std.proofs.Common.{◌≡◌, [], ◌∷◌, refl, arith}
use Rattle.std.proofs.Math.IntN.{ℤ, pos, ◌+ℤ◌, ◌-ℤ◌, ◌*ℤ◌}
use Rattle.std.specs.Prelude.{◌<ℤ◌, ◌≤ℤ◌}
use Rattle.geom.proofs.Integers.{linear, mul_nonneg, mul_pos, cancel_nonneg, cancel_pos}
use Rattle.geom.proofs.Identity.{var, ◌⊕◌, ◌⊖◌, ◌⊗◌, ring}
use Rattle.geom.proofs.Numbers.{gap_is, strict_gap_is, from_gap, from_strict_gap, weak}

-- d (e b - a f) = b (e d - c f) + f (c b - a d)
middle : (a b c d e f : ℤ) → d *ℤ ((e *ℤ b) -ℤ (a *ℤ f)) ≡ (b *ℤ ((e *ℤ d) -ℤ (c *ℤ f))) +ℤ (f *ℤ ((c *ℤ b) -ℤ (a *ℤ d)))
middle a b c d e f = ring (a ∷ b ∷ c ∷ d ∷ e ∷ f ∷ [])
    (var 3 ⊗ ((var 4 ⊗ var 1) ⊖ (var 0 ⊗ var 5)))
    ((var 1 ⊗ ((var 4 ⊗ var 3) ⊖ (var 2 ⊗ var 5))) ⊕ (var 5 ⊗ ((var 2 ⊗ var 1) ⊖ (var 0 ⊗ var 3)))) refl

sum_nonneg : (x y z : ℤ) → z ≡ x +ℤ y → pos 0 ≤ℤ x → pos 0 ≤ℤ y → pos 0 ≤ℤ z
sum_nonneg x y z e h k = omega (arith, linear)

sum_pos_left : (x y z : ℤ) → z ≡ x +ℤ y → pos 0 <ℤ x → pos 0 ≤ℤ y → pos 0 <ℤ z
sum_pos_left x y z e h k = omega (arith, linear)

sum_pos_right : (x y z : ℤ) → z ≡ x +ℤ y → pos 0 ≤ℤ x → pos 0 <ℤ y → pos 0 <ℤ z
sum_pos_right x y z e h k = omega (arith, linear)

module _ (a b c d e f : ℤ) (pb : pos 0 <ℤ b) (pd : pos 0 <ℤ d) (pf : pos 0 <ℤ f) where
  -- a / b ≤ c / d ≤ e / f
  pub le_le : (a *ℤ d) ≤ℤ (c *ℤ b) → (c *ℤ f) ≤ℤ (e *ℤ d) → (a *ℤ f) ≤ℤ (e *ℤ b)
  le_le h k = from_gap _ _ (cancel_nonneg d _ pd (sum_nonneg _ _ _ (middle a b c d e f) (mul_nonneg b _ (weak _ _ pb) (gap_is _ _ k)) (mul_nonneg f _ (weak _ _ pf) (gap_is _ _ h))))

  pub lt_le : (a *ℤ d) <ℤ (c *ℤ b) → (c *ℤ f) ≤ℤ (e *ℤ d) → (a *ℤ f) <ℤ (e *ℤ b)
  lt_le h k = from_strict_gap _ _ (cancel_pos d _ pd (sum_pos_right _ _ _ (middle a b c d e f) (mul_nonneg b _ (weak _ _ pb) (gap_is _ _ k)) (mul_pos f _ pf (strict_gap_is _ _ h))))

  pub le_lt : (a *ℤ d) ≤ℤ (c *ℤ b) → (c *ℤ f) <ℤ (e *ℤ d) → (a *ℤ f) <ℤ (e *ℤ b)
  le_lt h k = from_strict_gap _ _ (cancel_pos d _ pd (sum_pos_left _ _ _ (middle a b c d e f) (mul_pos b _ pb (strict_gap_is _ _ k)) (mul_nonneg f _ (weak _ _ pf) (gap_is _ _ h))))
