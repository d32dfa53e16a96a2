use Rattle.std.proofs.Common.{List, subst, w32, to_z, of_z, to_z-of_z}
use Rattle.std.specs.Prelude.{All}
use Rattle.std.proofs.lemmas.List.{take_all}
use Rattle.hot_region.specs.declared.lines.Line.{Line}
use Rattle.hot_region.specs.Bundle.{RunsThroughSeen}
use Rattle.hot_region.proofs.BundleLaws.{all_more, runs_seen}
use Rattle.hot_region.proofs.bundle.all_run_through.Goals as goal

pub loop-line-preserved : goal.loop-line-preserved
loop-line-preserved c =
    let low = to_z w32 (of_z w32 c.args.low) in
    let high = to_z w32 (of_z w32 c.args.high) in
    all_more (λ x. RunsThroughSeen c.args.course low high x.edge) c.args.lines.now c.loop-line.line-index c.line-item.result c.loop-line-test.true c.line-item.is c.loop-line.invariant
    (runs_seen c.args.course low high c.line-item.result.edge c.seen-edge.result c.seen-edge.ensures (c.runs_through.ensures c.if-not-runs_through.false))

pub returns : goal.returns
returns c = λ t.
    let low = to_z w32 (of_z w32 c.args.low) in
    let high = to_z w32 (of_z w32 c.args.high) in
    let all = subst (λ (ls : List Line). All (λ x. RunsThroughSeen c.args.course low high x.edge) ls) (take_all c.loop-line.line-index c.args.lines.now c.loop-line-test.false) c.loop-line.invariant in
    rw (to_z-of_z c.ranges.low, to_z-of_z c.ranges.high) at all
