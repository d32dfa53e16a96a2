use Rattle.std.proofs.Common.{arith, rules}
use Rattle.std.proofs.lemmas.List.Sorted.{IsPartitionPoint-from_clause}
use Rattle.polygonize.specs.Leaving.{leaves_sooner}
use Rattle.polygonize.proofs.NextEdge.RoundVertex.{parted_by}
use Rattle.polygonize.proofs.successor.first_past.Goals as goal

pub returns : goal.returns
returns c =
    let point = IsPartitionPoint-from_clause (λ s. leaves_sooner s c.args.back) c.args.leaving.now c.partition_point.result c.partition_point.ensures.partitioned (parted_by c.args.leaving.now c.args.back c.requires) (λ a r f k. search rules) in
    record { before = λ k d l. point.0 k d (omega arith) l; from = λ k d l m. point.1 k d l m }
