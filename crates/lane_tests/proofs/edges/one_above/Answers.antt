use Rattle.std.proofs.Common.{◌≡◌, ◌^◌, ◌+◌, refl, ◌∙◌, rules, arith, to_z-of_z, to_z, of_z, FitsSigned, w32, w64, ℤ, ◌*ℤ◌, ◌-ℤ◌, ◌+ℤ◌, Bool, ◌&&◌, ◌||◌}
use Rattle.std.specs.Prelude.{int_lt, int_le}
use Rattle.std.proofs.lemmas.Int.{ints}
use Rattle.geom.specs.Limit.{IsWithin}
use Rattle.lane_tests.proofs.Values.{prod}
use Rattle.lane_tests.proofs.edges.one_above.Goals as goal

wider : (z : ℤ) → FitsSigned w32 z → IsWithin (2 ^ 29) z → IsWithin (2 ^ 29 + 1) (to_z w32 (of_z w32 z))
wider z f h = record { low = omega (arith, ints); high = omega (arith, ints) }

widest : (z : ℤ) → FitsSigned w32 z → IsWithin (2 ^ 29) z → IsWithin (2 ^ 30 + 1) (to_z w32 (of_z w32 z))
widest z f h = record { low = omega (arith, ints); high = omega (arith, ints) }

pub offset-requires-2-clause-x2 : goal.offset-requires-2-clause-x2
offset-requires-2-clause-x2 c = wider c.args.probe.x2 (search rules) c.requires.probe.x2

pub product-requires-clause-b : goal.product-requires-clause-b
product-requires-clause-b c = widest c.args.probe.dy (search rules) c.requires.probe.dy

pub product-requires-2-clause-b : goal.product-requires-2-clause-b
product-requires-2-clause-b c = widest c.args.probe.dx (search rules) c.requires.probe.dx

joined : (c c' : Bool) → c ≡ c' → (over under p q o u s t : ℤ) → FitsSigned w64 over → FitsSigned w64 under → FitsSigned w64 p → FitsSigned w64 q → over ≡ o → under ≡ u → p ≡ s → q ≡ t
    → c && (int_lt (to_z w64 (of_z w64 over)) (to_z w64 (of_z w64 under)) || (int_le (to_z w64 (of_z w64 over)) (to_z w64 (of_z w64 under)) && int_lt (to_z w64 (of_z w64 p)) (to_z w64 (of_z w64 q))))
    ≡ c' && (int_lt o u || (int_le o u && int_lt s t))
joined c c' j over under p q o u s t f g h k d e a b = simp to_z-of_z (λ i. j i && (int_lt (d i) (e i) || (int_le (d i) (e i) && int_lt (a i) (b i))))

pub returns : goal.returns
returns c =
    let z = c.args.probe in
    let fx : FitsSigned w32 z.x2 = search rules in
    let fy : FitsSigned w32 z.y2 = search rules in
    let gx : FitsSigned w32 z.dx = search rules in
    let gy : FitsSigned w32 z.dy = search rules in
    let f1 = c.ranges.px in let f2 = c.ranges.py in let f3 = c.ranges.qx in let f4 = c.ranges.qy in let f5 = c.ranges.column in
    let run : c.difference-run.result ≡ c.args.qx -ℤ c.args.px = simp to_z-of_z at c.difference-run.ensures.value in
    let rise : c.difference-rise.result ≡ c.args.qy -ℤ c.args.py = simp to_z-of_z at c.difference-rise.ensures.value in
    let up : c.offset.result ≡ z.y2 -ℤ (c.args.py +ℤ c.args.py) = simp to_z-of_z at c.offset.ensures.value in
    let along : c.offset-2.result ≡ z.x2 -ℤ (c.args.px +ℤ c.args.px) = simp to_z-of_z at c.offset-2.ensures.value in
    let over = prod c.product-over.result _ _ _ _ (search rules) (search rules) run up c.product-over.ensures in
    let under = prod c.product-under.result _ _ _ _ (search rules) (search rules) rise along c.product-under.ensures in
    let first : c.product.result ≡ (c.args.qx -ℤ c.args.px) *ℤ z.dy = prod c.product.result _ _ _ _ (search rules) gy run refl c.product.ensures in
    let second : c.product-2.result ≡ (c.args.qy -ℤ c.args.py) *ℤ z.dx = prod c.product-2.result _ _ _ _ (search rules) gx rise refl c.product-2.ensures in
    let part : int_le (to_z w32 (of_z w32 c.args.px)) (to_z w32 (of_z w32 c.args.column)) && int_lt (to_z w32 (of_z w32 c.args.column)) (to_z w32 (of_z w32 c.args.qx)) ≡ int_le c.args.px c.args.column && int_lt c.args.column c.args.qx = simp to_z-of_z in
    joined _ _ part _ _ _ _ _ _ _ _ (search rules) (search rules) (search rules) (search rules) over under first second
