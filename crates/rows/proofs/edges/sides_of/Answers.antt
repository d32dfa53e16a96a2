use Rattle.std.proofs.Common.{arith}
use Rattle.rows.specs.RowEdges.{sides}
use Rattle.rows.proofs.Sides.{side_more}
use Rattle.rows.proofs.edges.sides_of.Goals as goal

pub loop-number-preserved : goal.loop-number-preserved
loop-number-preserved g c =
    let here = c.loop-number-test.true in
    let left = c.requires.left in
    let right = c.requires.right in
    side_more c.args.borders.now c.args.left.now c.args.right.now c.loop-number.number c.index-borders-number.result here (omega (arith, here, left)) (omega (arith, here, right))
    c.loop-number.list.items c.push_side.new.list.items c.push_side-in-loop-number.new.list.items (sides c.args.borders.now c.args.left.now c.args.right.now) c.loop-number.invariant c.in_ok-push_side.ensures c.in_ok-push_side-2.ensures
