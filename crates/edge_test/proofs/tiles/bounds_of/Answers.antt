use Rattle.edge_test.proofs.Bounding.{holds_more, holds_none, some_are}
use Rattle.edge_test.proofs.tiles.bounds_of.Goals as goal

pub loop-edge-init : goal.loop-edge-init
loop-edge-init c = holds_none c.args.edges.now c.index-edges-0.result c.bounds-bounds.result c.index-edges-0.is (some_are _ c.if-is_empty.ensures) c.requires c.bounds-bounds.ensures.lo c.bounds-bounds.ensures.hi

pub loop-edge-preserved : goal.loop-edge-preserved
loop-edge-preserved c =
    let first = c.with.ensures in
    let second = c.with-bounds.ensures in
    holds_more c.args.edges.now c.loop-edge.edge-index c.loop-edge.bounds c.with.result c.with-bounds.result c.edge-item.result c.edge-item.is c.loop-edge-test.true c.requires
    (record { left = first.left; below = first.below; right = first.right; above = first.above }) (record { left = second.left; below = second.below; right = second.right; above = second.above }) c.loop-edge.invariant
