use Rattle.engine.proofs.Bounding.{holds_more, holds_none, some_are}
use Rattle.engine.proofs.cells.bounds_of.Goals as goal

pub loop-segment-init : goal.loop-segment-init
loop-segment-init c = holds_none c.args.segments.now c.index-segments-0.result c.bounds-bounds.result c.index-segments-0.is (some_are _ c.if-is_empty.ensures) c.requires c.bounds-bounds.ensures.lo c.bounds-bounds.ensures.hi

pub loop-segment-preserved : goal.loop-segment-preserved
loop-segment-preserved c =
    let first = c.with.ensures in
    let second = c.with-bounds.ensures in
    holds_more c.args.segments.now c.loop-segment.segment-index c.loop-segment.bounds c.with.result c.with-bounds.result c.segment-item.result c.segment-item.is c.loop-segment-test.true c.requires
    (record { left = first.left; below = first.below; right = first.right; above = first.above }) (record { left = second.left; below = second.below; right = second.right; above = second.above }) c.loop-segment.invariant
