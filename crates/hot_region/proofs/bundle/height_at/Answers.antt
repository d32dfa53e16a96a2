use Rattle.std.proofs.Common.{◌≡◌, ◌^◌, ◌<◌, w64, to_z, of_z, to_z-of_z, lit<, ◌∙◌, ap, sym, subst, arith}
use Rattle.std.proofs.Math.IntN.{ℤ, pos, ◌+ℤ◌, ◌-ℤ◌}
use Rattle.std.specs.Prelude.{◌<ℤ◌, ◌≤ℤ◌}
use Rattle.std.specs.Int.{w128}
use Rattle.std.proofs.lemmas.Int.{ints}
use lib.Signed.{mag}
use Rattle.geom.specs.Limit.{IsWithin}
use Rattle.geom.specs.Determinant.{determinant}
use Rattle.geom.proofs.Bounds.{fits_64}
use Rattle.hot_region.specs.Bundle.{height, IsFloor}
use Rattle.hot_region.proofs.bundle.height_at.Goals as goal

back : (n z : ℤ) → IsWithin (2 ^ 60) n → n ≡ z → to_z w64 (of_z w64 n) ≡ z
back n z h e = to_z-of_z (fits_64 (2 ^ 60) n (lit< tt) h) ∙ e

run_back : (r x : ℤ) → IsWithin (2 ^ 29) r → r ≡ x → to_z w64 (of_z w64 r) ≡ x
run_back r x h e = to_z-of_z (fits_64 (2 ^ 29) r (lit< tt) h) ∙ e

positive_back : (r p q : ℤ) → to_z w64 (of_z w64 r) ≡ q -ℤ p → p <ℤ q → pos 0 <ℤ to_z w64 (of_z w64 r)
positive_back r p q e l = omega (arith, ints)

small_back : (r : ℤ) → IsWithin (2 ^ 29) r → to_z w64 (of_z w64 r) ≤ℤ pos (2 ^ 30)
small_back r h = omega (arith, ints)

height_small : (n : ℤ) → IsWithin (2 ^ 60) n → IsWithin (2 ^ 60) (to_z w64 (of_z w64 n))
height_small n h = subst (λ x. IsWithin (2 ^ 60) x) (sym (back n n h (λ i. n))) h

floor_back : (n h r x k : ℤ) → to_z w64 (of_z w64 n) ≡ h → to_z w64 (of_z w64 r) ≡ x → mag k < 2 ^ 127 → IsFloor (to_z w64 (of_z w64 n)) (to_z w64 (of_z w64 r)) k → IsFloor h x (to_z w128 (of_z w128 k))
floor_back n h r x k e f small u =
    let g : to_z w128 (of_z w128 k) ≡ k = omega (arith, ints) in
    rw g (rw (e, f) at u)

pub parts_of-requires-clause-small : goal.parts_of-requires-clause-small
parts_of-requires-clause-small c = height_small c.determinant-height.result c.determinant-height.ensures.small

pub parts_of-requires-clause-positive : goal.parts_of-requires-clause-positive
parts_of-requires-clause-positive c =
    let run = c.vector_to-run.result in
    positive_back run.dx c.args.line.now.p.x c.args.line.now.q.x (run_back run.dx _ run.dx_small c.vector_to-run.ensures.dx) c.requires.apart

pub parts_of-requires-clause-run_small : goal.parts_of-requires-clause-run_small
parts_of-requires-clause-run_small c = small_back c.vector_to-run.result.dx c.vector_to-run.result.dx_small

pub returns : goal.returns
returns c =
    let v = c.vector_to-run.ensures in
    let b = c.from_border.ensures in
    let border = b.dx ∙ ap (λ (w : ℤ). (c.args.line.now.p.x +ℤ c.args.line.now.p.x) -ℤ w) (to_z-of_z c.ranges.border) in
    let run = c.vector_to-run.result in
    let h = back c.determinant-height.result (height c.args.line.now c.args.border) c.determinant-height.ensures.small (c.determinant-height.ensures.value ∙ (λ i. determinant (v.dx i) (v.dy i) (border i) (b.dy i))) in
    floor_back c.determinant-height.result (height c.args.line.now c.args.border) run.dx (c.args.line.now.q.x -ℤ c.args.line.now.p.x) c.parts_of.result h (run_back run.dx _ run.dx_small v.dx) c.parts_of.type_inv c.parts_of.ensures
