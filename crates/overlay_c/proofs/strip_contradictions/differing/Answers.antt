use Rattle.std.proofs.Common.{◌≡◌, ℕ, arith, subst, take}
use Rattle.std.proofs.Math.IntN.{pos}
use Rattle.overlay_c.specs.Strips.{carried_numbers, open_numbers}
use Rattle.overlay_c.proofs.StripSearch.{numbers_end, same_more}
use Rattle.overlay_c.proofs.strip_contradictions.differing.Goals as goal

pub loop-place-preserved : goal.loop-place-preserved
loop-place-preserved c =
    let m = c.min-common.ensures in
    let t = c.loop-place-test.true in
    same_more c.args.right.now c.args.carried.now c.loop-place.place (record { number = 0; layer = 0; has_pixel = 0; x = pos 0; y = pos 0 }) (record { number = 0; x = pos 0; y = pos 0 })
    (omega (arith, m, t)) (omega (arith, m, t)) c.loop-place.invariant c.if-right-place.false

pub returns-else-right-carried : goal.returns-else-right-carried
returns-else-right-carried c =
    let m = c.min-common.ensures in
    let e : c.loop-place.place ≡ c.min-common.result = omega (arith, c.loop-place-test.false, c.loop-place.auto.place-end) in
    numbers_end c.args.right.now c.args.carried.now c.min-common.result (omega (arith, m)) (omega (arith, m)) c.if-right-carried.false
    (subst (λ (n : ℕ). take n (open_numbers c.args.right.now) ≡ take n (carried_numbers c.args.carried.now)) e c.loop-place.invariant) (λ l. omega (arith, m, l))
