use Rattle.std.proofs.Common.{◌≡◌, ◌++◌, flat_map, vec_len}
use Rattle.std.specs.Prelude.{reverse}
use Rattle.phases.specs.Merged.{lists_of}
use Rattle.phases.proofs.in_turn.from_last.Given as goal

abbrev pub invariant-loop-list : goal.invariant-loop-list
invariant-loop-list g l = l.all.items ++ flat_map (λ x. x) (reverse (lists_of l.lists.items)) ≡ flat_map (λ x. x) (reverse (lists_of l.initial.lists.items))

abbrev pub decreases-loop-list : goal.decreases-loop-list
decreases-loop-list g l = vec_len l.lists
