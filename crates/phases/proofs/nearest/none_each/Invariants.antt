use Rattle.std.proofs.Common.{◌≡◌, replicate}
use Rattle.std.specs.Prelude.{None}
use Rattle.phases.proofs.nearest.none_each.Given as goal

abbrev pub invariant-loop : goal.invariant-loop
invariant-loop g l = l.nears.items ≡ replicate l.counter None
