use Rattle.std.proofs.Common.{to_z-of_z}
use Rattle.hot_region.proofs.BundleLaws.{seen_limit}
use Rattle.hot_region.proofs.carrier.strand_if_through.Goals as goal

pub strand_of-requires-clause-line_in : goal.strand_of-requires-clause-line_in
strand_of-requires-clause-line_in c = seen_limit c.args.course c.args.line.now c.seen-edge.result c.seen-edge.ensures c.requires.line_in

pub returns-then-runs_through : goal.returns-then-runs_through
returns-then-runs_through c = (c.seen-edge.result, c.seen-edge.ensures, rw (to_z-of_z c.ranges.low, to_z-of_z c.ranges.high) at c.strand_of.ensures)
