use Rattle.std.proofs.Common.{arith, ◌∙◌, sym}
use Rattle.polygonize.proofs.ClosesOnce.{closes_of}
use Rattle.polygonize.proofs.NextEdge.Looking.{none_after, none_before}
use Rattle.polygonize.proofs.stripes.first_between.Goals as goal

pub loop-low-preserved-then-is_at_lesser : goal.loop-low-preserved-then-is_at_lesser
loop-low-preserved-then-is_at_lesser c =
    let inv = c.loop-low.invariant in
    let some = c.loop-low-test.true in
    (omega (arith, some), inv.1, none_before c.args.edges.list.now c.args.v _ (closes_of c.args.edges.closes).are_directed (omega (arith, some, inv.1)) (sym c.is_at_lesser.ensures ∙ c.if-is_at_lesser.true), inv.3)

pub loop-low-preserved : goal.loop-low-preserved
loop-low-preserved c =
    let inv = c.loop-low.invariant in
    let some = c.loop-low-test.true in
    (omega arith, omega (arith, some, inv.1), inv.2, none_after c.args.edges.list.now c.args.v _ (closes_of c.args.edges.closes).are_directed (omega (arith, some, inv.1)) (sym c.is_at_lesser.ensures ∙ c.if-is_at_lesser.false))
