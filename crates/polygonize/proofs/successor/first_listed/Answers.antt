use Rattle.std.proofs.Common.{arith, rules}
use Rattle.std.proofs.lemmas.List.Sorted.{IsPartitionPoint-from_clause}
use Rattle.polygonize.specs.Clockwise.{less}
use Rattle.polygonize.specs.declared.leaving.LeavingEdge.{LeavingEdge}
use Rattle.polygonize.proofs.NextEdge.RoundVertex.{parted_at}
use Rattle.polygonize.proofs.successor.first_listed.Goals as goal

pub returns : goal.returns
returns c =
    let point = IsPartitionPoint-from_clause (λ (s : LeavingEdge). less s.at c.args.v) c.args.leaving.now c.partition_point.result c.partition_point.ensures.partitioned (parted_at c.args.leaving.now c.args.v c.requires) (λ a r f k. search rules) in
    record { before = λ k d l. point.0 k d (omega arith) l; from = λ k d l m. point.1 k d l m }
