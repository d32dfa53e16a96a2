use Rattle.std.proofs.Common.{refl, rules, arith, to_z-of_z}
use Rattle.tiling.proofs.Searching.{less, not_less, ticks_few, goes_right, goes_left}
use Rattle.tiling.proofs.search.first_at_least.Goals as goal

pub loop-low-preserved-then-number-x : goal.loop-low-preserved-then-number-x
loop-low-preserved-then-number-x g c =
    let f = c.ranges.x in
    rw c.tick.ensures (goes_right _ _ _ _ _ _ _ c.requires c.loop-low.invariant (omega arith) refl (rw (to_z-of_z f) (less _ c.from-number.result c.args.x (search rules) f c.from-number.ensures c.if-number-x.true)))

pub loop-low-preserved : goal.loop-low-preserved
loop-low-preserved g c =
    let f = c.ranges.x in
    rw c.tick.ensures (goes_left _ _ _ _ _ _ _ c.requires c.loop-low.invariant (omega arith) refl (rw (to_z-of_z f) (not_less _ c.from-number.result c.args.x (search rules) f c.from-number.ensures c.if-number-x.false)))

pub returns-clause-cost : goal.returns-clause-cost
returns-clause-cost g c = ticks_few _ _ _ _ _ _ c.loop-low.invariant
