use Rattle.std.proofs.Common.{◌≡◌, ◌↔◌, w64, FitsSigned, to_z, of_z, to_z-of_z, sym, ◌∙◌, ap, Some}
use Rattle.std.proofs.Math.IntN.{ℤ, pos, ◌+ℤ◌, ◌-ℤ◌, ◌*ℤ◌}
use Rattle.std.specs.Prelude.{◌≤ℤ◌}
use Rattle.geom.specs.declared.point.Pt.{Pt}
use Rattle.geom.specs.Pixel.{nearest}
use Rattle.geom.proofs.Pixels.{same_point}
use Rattle.crossing.proofs.common_point.crossing_at.Goals as goal

ratio_back : {P : Type 0} (m n : ℤ) → FitsSigned w64 m → FitsSigned w64 n → P ↔ ((pos 0 ≤ℤ to_z w64 (of_z w64 m)) × (to_z w64 (of_z w64 m) ≤ℤ to_z w64 (of_z w64 n))) → P ↔ ((pos 0 ≤ℤ m) × (m ≤ℤ n))
ratio_back m n f g e = simp to_z-of_z at e

nearest_back : (r det e s t : ℤ) → FitsSigned w64 det → FitsSigned w64 e → r ≡ nearest ((to_z w64 (of_z w64 det) *ℤ s) +ℤ (to_z w64 (of_z w64 e) *ℤ (t -ℤ s))) (to_z w64 (of_z w64 det)) → nearest ((det *ℤ s) +ℤ (e *ℤ (t -ℤ s))) det ≡ r
nearest_back r det e s t f g h = sym (simp to_z-of_z at h)

inner : (p q : Pt) → Some p ≡ Some q → p ≡ q
inner p q e = cc

pub returns-then-is_ratio-2 : goal.returns-then-is_ratio-2
returns-then-is_ratio-2 c p =
    let s = c.args.s.now in
    let q = c.pixel_at.result in
    let we = (ratio_back c.args.e c.args.det c.ranges.e c.ranges.det c.is_ratio.ensures).0 c.if-is_ratio.true in
    let wf = (ratio_back c.args.f c.args.det c.ranges.f c.ranges.det c.is_ratio-then-is_ratio.ensures).0 c.if-is_ratio-2.true in
    let x = nearest_back q.x c.args.det c.args.e s.a.x s.b.x c.ranges.det c.ranges.e c.pixel_at.ensures.x in
    let y = nearest_back q.y c.args.det c.args.e s.a.y s.b.y c.ranges.det c.ranges.e c.pixel_at.ensures.y in (
      λ t.
          let o = inner _ p t in
          record { e_low = we.0; e_high = we.1; f_low = wf.0; f_high = wf.1; x_is = x ∙ ap (λ (u : Pt). u.x) o; y_is = y ∙ ap (λ (u : Pt). u.y) o },
      λ h. ap (λ (u : Pt). Some u) (same_point q p (sym x ∙ h.x_is) (sym y ∙ h.y_is)),
    )
