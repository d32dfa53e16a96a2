use Rattle.std.proofs.Common.{refl, subst, sym, w32, to_z, of_z, to_z-of_z}
use Rattle.std.specs.Prelude.{IfSome}
use Rattle.hot_region.specs.declared.lines.Line.{Line}
use Rattle.hot_region.specs.Bundle.{IsStrandSeen}
use Rattle.hot_region.proofs.CarrierLaws.{carried_all, carried_more}
use Rattle.hot_region.proofs.carrier.with_strands.Goals as goal

pub loop-place-preserved : goal.loop-place-preserved
loop-place-preserved g c =
    let low = to_z w32 (of_z w32 c.args.low) in
    let high = to_z w32 (of_z w32 c.args.high) in
    let l = c.index-lines-place.result in
    let strand = subst (λ (x : Line). IfSome c.strand_if_through-strand.result (λ s. IsStrandSeen c.args.course low high x.edge s)) (sym c.index-lines-place.is) c.strand_if_through-strand.ensures in
    rw c.in_ok-push.ensures.items (carried_more c.args.course low high c.args.lines.now c.loop-place.place c.loop-place.list.items l _ c.loop-place-test.true c.index-lines-place.is refl strand c.loop-place.invariant)

pub returns : goal.returns
returns g c = rw (to_z-of_z c.ranges.low, to_z-of_z c.ranges.high) at (carried_all c.args.course (to_z w32 (of_z w32 c.args.low)) (to_z w32 (of_z w32 c.args.high)) c.args.lines.now c.loop-place.place c.loop-place.list.items c.loop-place-test.false c.loop-place.invariant)
