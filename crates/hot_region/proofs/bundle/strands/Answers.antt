use Rattle.std.proofs.Common.{List, subst, w32, to_z, of_z, to_z-of_z}
use Rattle.std.proofs.lemmas.List.{take_all}
use Rattle.hot_region.specs.declared.lines.Line.{Line}
use Rattle.hot_region.specs.Bundle.{AreStrands}
use Rattle.hot_region.proofs.BundleLaws.{seen_limit, strands_more}
use Rattle.hot_region.proofs.bundle.strands.Goals as goal

pub strand_of-strand-requires-clause-line_in : goal.strand_of-strand-requires-clause-line_in
strand_of-strand-requires-clause-line_in g c =
    let l = c.line-item.result in
    seen_limit c.args.course l.edge c.seen-edge.result c.seen-edge.ensures l.in_limit

pub loop-line-preserved : goal.loop-line-preserved
loop-line-preserved g c =
    let low = to_z w32 (of_z w32 c.args.low) in
    let high = to_z w32 (of_z w32 c.args.high) in
    rw c.in_ok-push.ensures.items (strands_more c.args.course low high c.args.lines.now c.loop-line.line-index c.line-item.result c.loop-line.list.items c.strand_of-strand.result c.loop-line-test.true c.line-item.is c.loop-line.invariant
    (c.seen-edge.result, c.seen-edge.ensures, c.strand_of-strand.ensures))

pub returns : goal.returns
returns g c =
    let low = to_z w32 (of_z w32 c.args.low) in
    let high = to_z w32 (of_z w32 c.args.high) in
    let all = subst (λ (ls : List Line). AreStrands c.args.course low high ls c.loop-line.list.items) (take_all c.loop-line.line-index c.args.lines.now c.loop-line-test.false) c.loop-line.invariant in
    rw (to_z-of_z c.ranges.low, to_z-of_z c.ranges.high) at all
