-- Numbers above their lowest bits.
use Rattle.std.proofs.Common.{◌≡◌, ◌⊎◌, inl, inr, ℕ, zero, suc, ◌+◌, ◌*◌, ◌/◌, ◌%◌, ◌^◌, ◌-◌, ◌<◌, ◌≤◌, sym, ap, ◌∙◌, arith, subst, ⊎_elim}
use Rattle.std.proofs.lemmas.Nat.{shr-shr}
use Rattle.std.proofs.Math.Pow.{shr_mono}

pub less_or : (f g : ℕ) → (f < g) ⊎ (g ≤ f)
less_or f zero = inr (omega arith)
less_or zero (suc g) = inl (omega arith)
less_or (suc f) (suc g) = ⊎_elim (λ h. inl (omega arith)) (λ h. inr (omega arith)) (less_or f g)

-- what is the same above some bits is the same above more
pub coarser : (l m f g : ℕ) → l ≤ m → f / 2 ^ l ≡ g / 2 ^ l → f / 2 ^ m ≡ g / 2 ^ m
coarser l m f g le h =
    let e : m ≡ l + (m - l) = omega arith in
    subst (λ (n : ℕ). f / 2 ^ n ≡ g / 2 ^ n) (sym e) (sym (shr-shr f l (m - l)) ∙ ap (λ (n : ℕ). n / 2 ^ (m - l)) h ∙ shr-shr g l (m - l))

-- one bit more
pub halved : (l f : ℕ) → f / 2 ^ (l + 1) ≡ f / 2 ^ l / 2
halved l f = sym (shr-shr f l 1)

pub is_even : (l p f : ℕ) → f / 2 ^ (l + 1) ≡ p → f / 2 ^ l % 2 ≡ 0 → f / 2 ^ l ≡ 2 * p
is_even l p f h e = from (f / 2 ^ l) (sym (halved l f) ∙ h) e
  where
    from : (q : ℕ) → q / 2 ≡ p → q % 2 ≡ 0 → q ≡ 2 * p
    from q k m = omega arith

pub is_other : (l p f : ℕ) → f / 2 ^ (l + 1) ≡ p → ¬ (f / 2 ^ l % 2 ≡ 0) → f / 2 ^ l ≡ 2 * p + 1
is_other l p f h e = from (f / 2 ^ l) (sym (halved l f) ∙ h) e
  where
    from : (q : ℕ) → q / 2 ≡ p → ¬ (q % 2 ≡ 0) → q ≡ 2 * p + 1
    from q k m = omega arith

pub above_half : (l p f : ℕ) → f / 2 ^ l ≡ 2 * p → f / 2 ^ (l + 1) ≡ p
above_half l p f h = halved l f ∙ ap (λ (q : ℕ). q / 2) h ∙ even p
  where
    even : (n : ℕ) → 2 * n / 2 ≡ n
    even n = omega arith

pub above_other : (l p f : ℕ) → f / 2 ^ l ≡ 2 * p + 1 → f / 2 ^ (l + 1) ≡ p
above_other l p f h = halved l f ∙ ap (λ (q : ℕ). q / 2) h ∙ odd p
  where
    odd : (n : ℕ) → (2 * n + 1) / 2 ≡ n
    odd n = omega arith

pub below_by_block : (l f g : ℕ) → f / 2 ^ l < g / 2 ^ l → f < g
below_by_block l f g h = ⊎_elim (λ k. k) (λ k. let m = shr_mono l k in absurd (omega arith)) (less_or f g)
