use Rattle.std.proofs.Common.{refl, sym, ◌∙◌, arith}
use Rattle.polygonize.specs.Below.{IsAsNear}
use Rattle.polygonize.specs.Next.{edge_at}
use Rattle.polygonize.proofs.EdgesBelow.Ladders.{goes_down, goes_up, search_begins, search_ends}
use Rattle.polygonize.proofs.EdgesBelow.Nearness.{by_number}
use Rattle.polygonize.proofs.ladder.highest_below.Goals as goal

pub loop-low-init : goal.loop-low-init
loop-low-init c = search_begins c.args.edges.list.now c.args.v c.args.ladder.now _ refl

pub loop-low-preserved-then-is_some : goal.loop-low-preserved-then-is_some
loop-low-preserved-then-is_some c =
    let t = c.loop-low-test.true in
    let w = c.loop-low.invariant.within in
    goes_up c.args.edges.list.now c.args.v c.args.ladder.now c.loop-low.low c.loop-low.high _ _ c.loop-low.best c.gap_below-found.result (sym c.is_some.ensures ∙ c.if-is_some.true) c.requires.order (omega arith) refl (c.requires.inside _ 0 (omega arith))
    c.gap_below-found.ensures.number c.gap_below-found.ensures.gap c.loop-low.invariant

pub loop-low-preserved : goal.loop-low-preserved
loop-low-preserved c =
    let t = c.loop-low-test.true in
    goes_down c.args.edges.list.now c.args.v c.args.ladder.now c.loop-low.low c.loop-low.high _ _ c.loop-low.best c.gap_below-found.result (sym c.is_some.ensures ∙ c.if-is_some.false) c.requires.order (omega arith) (omega arith) refl
    c.gap_below-found.ensures.gap c.loop-low.invariant

pub returns-clause-known : goal.returns-clause-known
returns-clause-known c = c.loop-low.invariant.known

pub returns-clause-near : goal.returns-clause-near
returns-clause-near c = by_number (λ k. IsAsNear (edge_at c.args.edges.list.now k) c.args.v c.loop-low.best) c.args.ladder.now (search_ends c.args.edges.list.now c.args.v c.args.ladder.now c.loop-low.low c.loop-low.high c.loop-low.best (let t = c.loop-low-test.false in omega arith) c.loop-low.invariant)
