use Rattle.std.proofs.Common.{◌≡◌, ◌∙◌, rules, to_z-of_z, to_z, of_z, FitsSigned, w8, w32, w64, ℤ, ◌*ℤ◌, ◌-ℤ◌, ◌+ℤ◌}
use Rattle.lane_tests.specs.Sides.{sign}
use Rattle.lane_tests.proofs.Values.{prod}
use Rattle.lane_tests.proofs.segs.one_side.Goals as goal

signed : (r u v x y : ℤ) → FitsSigned w8 r → FitsSigned w64 u → FitsSigned w64 v → u ≡ x → v ≡ y → r ≡ sign (to_z w64 (of_z w64 u)) (to_z w64 (of_z w64 v)) → to_z w8 (of_z w8 r) ≡ sign x y
signed r u v x y f g h d e k = to_z-of_z f ∙ k ∙ (λ i. sign ((to_z-of_z g ∙ d) i) ((to_z-of_z h ∙ e) i))

pub returns : goal.returns
returns c =
    let f1 = c.ranges.ax in let f2 = c.ranges.ay in let f3 = c.ranges.bx in let f4 = c.ranges.by in let f5 = c.ranges.x2 in let f6 = c.ranges.y2 in
    let run : c.difference.result ≡ c.args.bx -ℤ c.args.ax = simp to_z-of_z at c.difference.ensures.value in
    let up : c.offset.result ≡ c.args.y2 -ℤ (c.args.ay +ℤ c.args.ay) = simp to_z-of_z at c.offset.ensures.value in
    let rise : c.difference-2.result ≡ c.args.by -ℤ c.args.ay = simp to_z-of_z at c.difference-2.ensures.value in
    let along : c.offset-2.result ≡ c.args.x2 -ℤ (c.args.ax +ℤ c.args.ax) = simp to_z-of_z at c.offset-2.ensures.value in
    let over = prod c.product.result _ _ _ _ (search rules) (search rules) run up c.product.ensures in
    let under = prod c.product-2.result _ _ _ _ (search rules) (search rules) rise along c.product-2.ensures in
    signed _ _ _ _ _ (search rules) (search rules) (search rules) over under c.sign.ensures
