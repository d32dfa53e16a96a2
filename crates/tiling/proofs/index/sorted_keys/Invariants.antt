use Rattle.std.proofs.Common.{◌≡◌, get_or, map, pos}
use Rattle.std.specs.List.{range_with_len}
use Rattle.tiling.specs.Index.{lefts_of}
use Rattle.tiling.proofs.index.sorted_keys.Given as goal

abbrev pub invariant-loop-number : goal.invariant-loop-number
invariant-loop-number g l = l.keys.items ≡ map (λ k. (get_or (lefts_of l.boxes) k (pos 0), k)) (range_with_len 0 l.number)
