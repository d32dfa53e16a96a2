use Rattle.std.proofs.Common.{take}
use Rattle.std.specs.Prelude.{All}
use Rattle.hot_region.specs.Bundle.{RunsThroughSeen}
use Rattle.hot_region.proofs.bundle.all_run_through.Given as goal

abbrev pub invariant-loop-line : goal.invariant-loop-line
invariant-loop-line l = All (λ x. RunsThroughSeen l.course l.low l.high x.edge) (take l.line-index l.lines)
