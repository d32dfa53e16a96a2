use Rattle.std.proofs.Common.{◌≡◌, ◌+◌, ◌^◌, length, take}
use Rattle.std.specs.Prelude.{flat_map}
use Rattle.linking.proofs.counting.are_few.Given as goal

abbrev pub invariant-loop-list : goal.invariant-loop-list
invariant-loop-list g l = (length (flat_map (λ s. s.items.items) (take l.list-index l.lists)) + l.left) + 1 ≡ 2 ^ 32
