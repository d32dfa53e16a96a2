use Rattle.std.proofs.Common.{◌≡◌, ◌<◌, ◌^◌, List, subst, sym, w32, to_z, of_z, arith}
use Rattle.std.proofs.Math.IntN.{ℤ}
use Rattle.std.specs.Prelude.{◌≤ℤ◌, IfSome}
use Rattle.std.proofs.lemmas.Int.{ints}
use lib.Signed.{mag}
use Rattle.geom.specs.declared.point.Pt.{Pt}
use Rattle.hot_region.specs.declared.lines.Line.{Line}
use Rattle.hot_region.specs.Bundle.{seen_point}
use Rattle.hot_region.specs.declared.carrier.Carried.{Carried}
use Rattle.hot_region.specs.Beside.{AreAscending, TakePart}
use Rattle.hot_region.specs.Carriers.{AreCarried}
use Rattle.hot_region.specs.Halving.{edges_of, IsHotFor}
use Rattle.hot_region.specs.Rects.{IsIn}
use Rattle.hot_region.proofs.BesideLaws.{others_take_part}
use Rattle.hot_region.proofs.CarrierLaws.{low_to_high}
use Rattle.hot_region.proofs.OrderLaws.{ascending_has_no_hot}
use Rattle.hot_region.proofs.beside.hot_along.Goals as goal

back : (r x : ℤ) → mag r < 2 ^ 31 → r ≡ x → to_z w32 (of_z w32 r) ≡ x
back r x h e = omega (arith, ints)

pub with_strands-requires : goal.with_strands-requires
with_strands-requires g c = subst (λ n. n ≤ℤ to_z w32 (of_z w32 c.x_of-high.result)) (sym (back _ _ c.x_of-low.type_inv c.x_of-low.ensures)) (subst (λ n. (seen_point c.args.course c.args.rect.now.lo).x ≤ℤ n) (sym (back _ _ c.x_of-high.type_inv c.x_of-high.ensures)) (low_to_high c.args.course c.args.rect.now))

pub hot_of_others-requires : goal.hot_of_others-requires
hot_of_others-requires g c =
    let rect = c.args.rect.now in
    let none = subst (λ (ls : List Line). (p : Pt) → IsIn rect p → IsHotFor (edges_of ls) p → ⊥) c.deref-4.ensures.value (c.in_ok-is_bundle.ensures c.if-branch.true) in
    subst (λ (ls : List Line). TakePart rect c.args.lines.now ls) (sym c.deref-then-branch.ensures.value) (others_take_part rect c.args.lines.now c.in_ok-parted.parted.beside.items c.in_ok-parted.parted.others.items c.in_ok-parted.ensures none)

pub returns-then-ascend : goal.returns-then-ascend
returns-then-ascend g c =
    let low = to_z w32 (of_z w32 c.x_of-low.result) in
    let high = to_z w32 (of_z w32 c.x_of-high.result) in
    let course = c.args.course in
    let lines = c.args.lines.now in
    let are = subst (λ o. IfSome o (λ v. AreCarried course low high lines v.items)) c.in-Some.is c.in_ok-items.ensures in
    let up = subst (λ (cs : List Carried). AreAscending cs) c.deref.ensures.value (c.ascend.ensures c.if-ascend.true) in
    rw c.new.ensures.items (ascending_has_no_hot course low high lines c.in-Some.items.items c.sort_unstable.new.self.items are c.sort_unstable.ensures.permutation up c.args.rect.now (back _ _ c.x_of-low.type_inv c.x_of-low.ensures) (back _ _ c.x_of-high.type_inv c.x_of-high.ensures))
