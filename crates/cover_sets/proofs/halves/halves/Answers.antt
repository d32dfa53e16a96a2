-- The low half stands in front.
use Rattle.std.proofs.Common.{rules}
use Rattle.std.proofs.lemmas.List.Sorted.{IsPartitionPoint-from_clause}
use Rattle.cover_sets.proofs.ListHalves.{back_high, front_low, is_low, parted}
use Rattle.cover_sets.proofs.halves.halves.Goals as goal

pub returns-clause-low : goal.returns-clause-low
returns-clause-low c =
    let xs = c.args.features.now in
    let n = c.partition_point-middle.result in
    let point = IsPartitionPoint-from_clause (is_low c.args.level) xs n c.partition_point-middle.ensures.partitioned (parted xs c.args.level c.requires.block.0 c.requires.ascending c.requires.block.1) (λ a r f k. search rules) in
    λ p k. front_low xs c.args.level p c.requires.ascending k n c.partition_point-middle.ensures.bound point.0 point.1 c.split_at.result.0.now c.split_at.ensures.front c.split_at.ensures.front_len

pub returns-clause-high : goal.returns-clause-high
returns-clause-high c =
    let xs = c.args.features.now in
    let n = c.partition_point-middle.result in
    let point = IsPartitionPoint-from_clause (is_low c.args.level) xs n c.partition_point-middle.ensures.partitioned (parted xs c.args.level c.requires.block.0 c.requires.ascending c.requires.block.1) (λ a r f k. search rules) in
    λ p k. back_high xs c.args.level p c.requires.ascending k n c.partition_point-middle.ensures.bound point.0 point.1 c.split_at.result.1.now c.split_at.ensures.back c.split_at.ensures.back_len
