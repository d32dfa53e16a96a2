use Rattle.std.proofs.Common.{arith, rules}
use Rattle.std.proofs.lemmas.List.Sorted.{IsPartitionPoint-from_clause}
use Rattle.geom.specs.declared.directed.DirectedEdge.{DirectedEdge}
use Rattle.polygonize.specs.Clockwise.{less}
use Rattle.polygonize.specs.Next.{nothing}
use Rattle.strip_polygons.proofs.TiesRuns.{parted_at}
use Rattle.strip_polygons.proofs.ties.first_leaving.Goals as goal

pub returns-clause-before : goal.returns-clause-before
returns-clause-before c =
    let point = IsPartitionPoint-from_clause (λ (d : DirectedEdge). less d.from c.args.v) c.args.directed.now c.partition_point.result
    c.partition_point.ensures.partitioned (parted_at c.args.directed.now c.requires c.args.v) (λ a r f k. search rules) in
    λ k l. point.0 k nothing (omega arith) l

pub returns-clause-from : goal.returns-clause-from
returns-clause-from c =
    let point = IsPartitionPoint-from_clause (λ (d : DirectedEdge). less d.from c.args.v) c.args.directed.now c.partition_point.result
    c.partition_point.ensures.partitioned (parted_at c.args.directed.now c.requires c.args.v) (λ a r f k. search rules) in
    λ k l m. point.1 k nothing l m
