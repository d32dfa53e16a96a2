use Rattle.std.proofs.Common.{◌≡◌, ◌<◌, ◌^◌, List, subst, sym, w32, to_z, of_z, arith, length}
use Rattle.std.proofs.Math.IntN.{ℤ}
use Rattle.std.specs.Prelude.{◌≤ℤ◌, All}
use Rattle.std.proofs.lemmas.Int.{ints}
use Rattle.std.proofs.lemmas.Result.{IfOk-weaker}
use lib.Signed.{mag}
use Rattle.hot_region.specs.declared.carrier.Carried.{Carried}
use Rattle.hot_region.specs.Bundle.{seen_point}
use Rattle.hot_region.specs.Carriers.{HasOneOfEach, KeepsCrossings}
use Rattle.hot_region.proofs.CarrierLaws.{keeps_crossings, low_to_high, places_below}
use Rattle.hot_region.proofs.carrier.one_of_each.Goals as goal

back : (r x : ℤ) → mag r < 2 ^ 31 → r ≡ x → to_z w32 (of_z w32 r) ≡ x
back r x h e = omega (arith, ints)

pub with_strands-requires : goal.with_strands-requires
with_strands-requires g c = subst (λ n. n ≤ℤ to_z w32 (of_z w32 c.x_of-high.result)) (sym (back _ _ c.x_of-low.type_inv c.x_of-low.ensures)) (subst (λ n. (seen_point c.args.course c.args.rect.now.lo).x ≤ℤ n) (sym (back _ _ c.x_of-high.type_inv c.x_of-high.ensures)) (low_to_high c.args.course c.args.rect.now))

pub first_of_each-requires : goal.first_of_each-requires
first_of_each-requires g c =
    let low = to_z w32 (of_z w32 c.x_of-low.result) in
    let high = to_z w32 (of_z w32 c.x_of-high.result) in
    subst (λ (xs : List Carried). All (λ x. x.place < length c.args.lines.now) xs) (sym c.deref.ensures.value) (places_below c.args.course low high c.args.lines.now c.in_ok-items.items.items c.sort_unstable.new.self.items c.in_ok-items.ensures c.sort_unstable.ensures.permutation)

pub returns : goal.returns
returns g c =
    let low = to_z w32 (of_z w32 c.x_of-low.result) in
    let high = to_z w32 (of_z w32 c.x_of-high.result) in
    let rect = c.args.rect.now in
    let lines = c.args.lines.now in
    let sorted = c.sort_unstable.new.self.items in
    IfOk-weaker c.first_of_each.result (λ v. HasOneOfEach lines c.deref.result.now v.items) (λ v. KeepsCrossings rect lines v.items)
    (λ v h. keeps_crossings c.args.course low high lines c.in_ok-items.items.items sorted c.in_ok-items.ensures c.sort_unstable.ensures.permutation v.items (subst (λ (xs : List Carried). HasOneOfEach lines xs v.items) c.deref.ensures.value h) rect (back _ _ c.x_of-low.type_inv c.x_of-low.ensures) (back _ _ c.x_of-high.type_inv c.x_of-high.ensures)) c.first_of_each.ensures
