use Rattle.phases.proofs.Bounding.{holds_more}
use Rattle.phases.proofs.strip_records.box_of.Goals as goal

pub loop-s-preserved : goal.loop-s-preserved
loop-s-preserved c =
    let first = c.with.ensures in
    let second = c.with-bounds.ensures in
    holds_more c.args.segments.now c.loop-s.s-index c.loop-s.bounds c.with.result c.with-bounds.result c.s-item.result c.s-item.is c.loop-s-test.true c.requires
    (record { left = first.left; below = first.below; right = first.right; above = first.above }) (record { left = second.left; below = second.below; right = second.right; above = second.above }) c.loop-s.invariant
