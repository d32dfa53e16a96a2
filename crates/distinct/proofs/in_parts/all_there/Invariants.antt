use Rattle.std.proofs.Common.{◌≡◌, ◌++◌, Some, map}
use Rattle.distinct.proofs.in_parts.all_there.Given as goal

-- the lists so far, and those of the rest behind them
abbrev pub invariant-loop-one : goal.invariant-loop-one
invariant-loop-one g l = map Some l.lists.items ++ l.one-iterator.rest.items ≡ l.fn.found.items
