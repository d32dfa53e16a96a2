use Rattle.std.specs.Prelude.{All}
use Rattle.geom.specs.Limit.{AreInLimit}
use Rattle.phases_tests.proofs.cases.segments.Given as goal

abbrev pub invariant-loop-lined : goal.invariant-loop-lined
invariant-loop-lined l = All (λ s. AreInLimit s.a s.b) l.segments.items
