use Rattle.std.proofs.Common.{◌≡◌, ◌++◌, flat_map}
use Rattle.hands.proofs.part.joined.Given as goal

-- the lists so far, and the rest behind them
abbrev pub invariant-loop-list : goal.invariant-loop-list
invariant-loop-list g l = l.all.items ++ flat_map (λ v. v.items) l.list-iterator.rest.items ≡ flat_map (λ v. v.items) l.fn.lists.items
