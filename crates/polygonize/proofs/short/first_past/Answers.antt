use Rattle.std.proofs.Common.{rules, int_le, arith}
use Rattle.std.proofs.lemmas.List.Sorted.{IsPartitionPoint-from_clause}
use Rattle.geom.specs.declared.point.Pt.{Pt}
use Rattle.geom.proofs.Tests.{le_told, le_untold}
use Rattle.polygonize.specs.Next.{nothing}
use Rattle.polygonize.proofs.EdgesBelow.Short.{parted}
use Rattle.polygonize.proofs.short.first_past.Goals as goal

pub returns-clause-before : goal.returns-clause-before
returns-clause-before g c =
    let column = c.args.column in
    let vertices = c.args.vertices.now in
    let found = c.partition_point.ensures.partitioned in
    let parts = parted vertices c.requires.from_left column in
    let point = IsPartitionPoint-from_clause (λ (v : Pt). int_le v.x column) vertices c.partition_point.result found parts (λ a r f k. search rules) in
    λ r h. le_told _ column (point.0 r nothing.from (omega arith) h)

pub returns-clause-past : goal.returns-clause-past
returns-clause-past g c =
    let column = c.args.column in
    let vertices = c.args.vertices.now in
    let found = c.partition_point.ensures.partitioned in
    let parts = parted vertices c.requires.from_left column in
    let point = IsPartitionPoint-from_clause (λ (v : Pt). int_le v.x column) vertices c.partition_point.result found parts (λ a r f k. search rules) in
    λ r l m. le_untold _ column (point.1 r nothing.from l m)
