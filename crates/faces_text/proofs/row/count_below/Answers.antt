use Rattle.std.proofs.Common.{rules}
use Rattle.std.proofs.lemmas.List.Sorted.{IsPartitionedBy-ltb, IsPartitionPoint-from_clause}
use Rattle.std.specs.Prelude.{nat_lt}
use Rattle.faces_text.proofs.Fields.{never_falls, low_front, high_back}
use Rattle.faces_text.proofs.row.count_below.Goals as goal

pub returns-clause-below : goal.returns-clause-below
returns-clause-below c =
    let xs = c.args.features.now in
    let point = IsPartitionPoint-from_clause (λ f. nat_lt f c.args.past) xs c.partition_point.result c.partition_point.ensures.partitioned
    (IsPartitionedBy-ltb (λ f. f) xs c.args.past (never_falls xs c.requires)) (λ a r f k. search rules) in
    low_front xs c.args.past c.partition_point.result c.partition_point.ensures.bound point.0

pub returns-clause-above : goal.returns-clause-above
returns-clause-above c =
    let xs = c.args.features.now in
    let point = IsPartitionPoint-from_clause (λ f. nat_lt f c.args.past) xs c.partition_point.result c.partition_point.ensures.partitioned
    (IsPartitionedBy-ltb (λ f. f) xs c.args.past (never_falls xs c.requires)) (λ a r f k. search rules) in
    high_back xs c.args.past c.partition_point.result c.partition_point.ensures.bound point.1
