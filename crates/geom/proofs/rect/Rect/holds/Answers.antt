use Rattle.std.proofs.Common.{rules, ◌↔◌, ℤ, ◌≤ℤ◌, FitsSigned, w32, to_z, of_z, to_z-of_z}
use Rattle.geom.proofs.rect.Rect.holds.Goals as goal

back : {P : Type 0} (a b c : ℤ) → FitsSigned w32 a → FitsSigned w32 b → FitsSigned w32 c → P ↔ ((to_z w32 (of_z w32 a) ≤ℤ to_z w32 (of_z w32 c)) × (to_z w32 (of_z w32 c) ≤ℤ to_z w32 (of_z w32 b))) → P ↔ ((a ≤ℤ c) × (c ≤ℤ b))
back a b c f g h e = simp to_z-of_z at e

pub returns-then-is_from : goal.returns-then-is_from
returns-then-is_from c =
    let x = back c.args.self.now.lo.x c.args.self.now.hi.x c.args.point.x (search rules) (search rules) (search rules) c.is_from.ensures in
    let y = back c.args.self.now.lo.y c.args.self.now.hi.y c.args.point.y (search rules) (search rules) (search rules) c.is_from-then-is_from.ensures in
    let u = x.0 c.if-is_from.true in (
      (λ t. let v = y.0 t in record { left = u.0; right = u.1; bottom = v.0; top = v.1 }),
      (λ h. y.1 (h.bottom, h.top)),
    )

pub returns-else-is_from : goal.returns-else-is_from
returns-else-is_from c =
    let x = back c.args.self.now.lo.x c.args.self.now.hi.x c.args.point.x (search rules) (search rules) (search rules) c.is_from.ensures in
    ((λ t. absurd (let e = c.if-is_from.false in cc)), (λ h. x.1 (h.left, h.right)))
