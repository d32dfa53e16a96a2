-- Powers of two tried as the side of a tile: the greatest side is never too fine.
use Rattle.std.proofs.Common.{◌≡◌, ℕ, suc, ◌+◌, ◌*◌, ◌^◌, ◌<◌, ◌≤◌, Option, Some, None, arith, inl, inr, ◌∙◌, ap}
use Rattle.std.proofs.Math.Pow.{pow_mono}
use Rattle.std.proofs.lemmas.Bool.{cases_lt}
use Rattle.std.proofs.lemmas.Nat.{mul-le}
use Rattle.geom.specs.declared.rect.Rect.{Rect}
use Rattle.grid.proofs.Columns.{wide}
use Rattle.grid.specs.Sides.{IsTooFine}
use Rattle.grid.specs.Tiles.{AreBounds, IsSide}

-- a power of two below which all from 2^18 on are too fine
pub record IsTried (bounds : Option Rect) (side : ℕ) : Type 0 where
  pub exponent : ℕ
  pub from : 18 ≤ exponent
  pub to : exponent ≤ 25
  pub power : side ≡ 2 ^ exponent
  pub least : (k : ℕ) → 18 ≤ k → k < exponent → IsTooFine bounds (2 ^ k)

pub coarse_enough : (bounds : Option Rect) → AreBounds bounds → IsTooFine bounds 33_554_432 → ⊥
coarse_enough None b t =
    let no = t.1 in
    let rows = no.2 in
    let many = t.2 in
    absurd (omega (arith, rw rows at many))
coarse_enough (Some r) b t =
    let g = t.0 in
    let columns : g.columns * 33_554_432 ≤ 2 ^ 29 + 2 ^ 26 = wide r.lo.x r.hi.x 33_554_432 g.columns b.a_in.x_in b.b_in.x_in r.wide (omega arith) t.1.columns_are in
    let rows : g.rows * 33_554_432 ≤ 2 ^ 29 + 2 ^ 26 = wide r.lo.y r.hi.y 33_554_432 g.rows b.a_in.y_in b.b_in.y_in r.high (omega arith) t.1.rows_are in
    let few : g.rows * g.columns ≤ 18 * 18 = mul-le g.rows g.columns 18 18 (omega (arith, rows)) (omega (arith, columns)) in
    absurd (omega (arith, few, t.2))

pub is_side : (bounds : Option Rect) (side : ℕ) → IsTried bounds side → IsSide side
is_side bounds side h =
    let low : 2 ^ 18 ≤ 2 ^ h.exponent = pow_mono h.from in
    let high : 2 ^ h.exponent ≤ 2 ^ 25 = pow_mono h.to in
    (rw h.power (omega (arith, low)), rw h.power (omega (arith, high)))

-- a side that is too fine is less than the greatest
pub below_greatest : (bounds : Option Rect) (side : ℕ) → AreBounds bounds → (h : IsTried bounds side) → IsTooFine bounds side → h.exponent < 25
below_greatest bounds side b h t = elim (cases_lt h.exponent 25) [
  | inl less ↦ less
  | inr more ↦
      let e : h.exponent ≡ 25 = omega (arith, h.to, more) in
      let s : side ≡ 33_554_432 = h.power ∙ ap (λ (k : ℕ). 2 ^ k) e in
      absurd (coarse_enough bounds b (rw s at t))
]

pub doubled : (bounds : Option Rect) (side : ℕ) → AreBounds bounds → IsTried bounds side → IsTooFine bounds side → IsTried bounds (side * 2)
doubled bounds side b h t =
    let less = below_greatest bounds side b h t in
    let two : 2 ^ suc h.exponent ≡ 2 ^ h.exponent * 2 = omega arith in
    record {
      exponent = suc h.exponent;
      from = omega (arith, h.from);
      to = omega (arith, less);
      power = rw h.power (omega arith);
      least = λ k low high. elim (cases_lt k h.exponent) [
        | inl before ↦ h.least k low before
        | inr not ↦
            let e : k ≡ h.exponent = omega (arith, not, high) in
            rw (e, ← h.power) t
      ];
    }
