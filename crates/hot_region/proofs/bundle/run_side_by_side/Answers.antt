use Rattle.std.proofs.Common.{List, subst, w32, to_z, of_z, to_z-of_z}
use Rattle.std.specs.Prelude.{AllPairs, IfSome}
use Rattle.hot_region.specs.declared.bundle.Strand.{Strand}
use Rattle.hot_region.specs.Bundle.{AreStrands, IsFollowedBy}
use Rattle.hot_region.proofs.BundleLaws.{bundle_has_no_hot}
use Rattle.hot_region.proofs.bundle.run_side_by_side.Goals as goal

pub returns-in-Some : goal.returns-in-Some
returns-in-Some g c = λ t.
    let low = to_z w32 (of_z w32 c.args.low) in
    let high = to_z w32 (of_z w32 c.args.high) in
    let all = subst (λ o. IfSome o (λ v. AreStrands c.args.course low high c.args.lines.now v.items)) c.in-Some.is c.in_ok-strands.ensures in
    let up = subst (λ (ss : List Strand). AllPairs IsFollowedBy ss) c.deref.ensures.value (c.ascend.ensures t) in
    rw (to_z-of_z c.ranges.low, to_z-of_z c.ranges.high) at (bundle_has_no_hot c.args.course low high c.args.lines.now c.in-Some.list.items c.sort_unstable.new.self.items all c.sort_unstable.ensures.permutation up)
