use Rattle.std.proofs.Common.{rules, ◌↔◌, ℤ, ◌≤ℤ◌, FitsSigned, w32, to_z, of_z, to_z-of_z}
use Rattle.geom.proofs.Boxes.{share_in, share_out}
use Rattle.geom.proofs.rect.Rect.shares_point.Goals as goal

back : {P : Type 0} (a b c d : ℤ) → FitsSigned w32 a → FitsSigned w32 b → FitsSigned w32 c → FitsSigned w32 d → P ↔ ((to_z w32 (of_z w32 a) ≤ℤ to_z w32 (of_z w32 d)) × (to_z w32 (of_z w32 c) ≤ℤ to_z w32 (of_z w32 b))) → P ↔ ((a ≤ℤ d) × (c ≤ℤ b))
back a b c d f g h i e = simp to_z-of_z at e

pub returns-then-overlap : goal.returns-then-overlap
returns-then-overlap c =
    let r = c.args.self.now in
    let s = c.args.other.now in
    let x = back r.lo.x r.hi.x s.lo.x s.hi.x (search rules) (search rules) (search rules) (search rules) c.overlap.ensures in
    let y = back r.lo.y r.hi.y s.lo.y s.hi.y (search rules) (search rules) (search rules) (search rules) c.overlap-then-overlap.ensures in
    ((λ t. share_out r s (x.0 c.if-overlap.true) (y.0 t)), (λ h. y.1 (share_in r s h).1))

pub returns-else-overlap : goal.returns-else-overlap
returns-else-overlap c =
    let r = c.args.self.now in
    let s = c.args.other.now in
    let x = back r.lo.x r.hi.x s.lo.x s.hi.x (search rules) (search rules) (search rules) (search rules) c.overlap.ensures in
    ((λ t. absurd (let e = c.if-overlap.false in cc)), (λ h. x.1 (share_in r s h).0))
