use Rattle.std.proofs.Common.{◌+◌, refl, arith}
use Rattle.geom.specs.Segments.{same_point}
use Rattle.columns.specs.Layout.{points_of}
use Rattle.columns.proofs.RingWalks.{count_more, one_at_most}
use Rattle.columns.proofs.outline.count_steps.Goals as goal

pub loop-end-preserved : goal.loop-end-preserved
loop-end-preserved c = record {
  count = count_more (points_of c.args.points.now) c.args.from c.loop-end.end (c.loop-end.end + 1) c.loop-end.count c.step_count-count.result c.at.result c.at-in-loop-end.result (omega arith) (omega arith) refl c.at.ensures c.at-in-loop-end.ensures c.loop-end.invariant.count c.step_count-count.ensures;
  few = omega (arith, one_at_most (same_point c.at.result c.at-in-loop-end.result), c.step_count-count.ensures);
}
