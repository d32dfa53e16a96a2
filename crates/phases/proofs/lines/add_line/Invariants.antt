use Rattle.std.proofs.Common.{◌≡◌, ◌⊎◌, ◌+◌, ◌≤◌}
use Rattle.phases.specs.Scattered.{lists_of}
use Rattle.phases.proofs.Scattering.{IsGiven}
use Rattle.phases.proofs.lines.add_line.Given as goal

abbrev pub invariant-loop-strip : goal.invariant-loop-strip
invariant-loop-strip g l = ((l.strip ≤ l.last + 1) ⊎ (l.strip ≡ l.first)) × IsGiven l.first l.strip l.line (lists_of l.initial.lists) (lists_of l.lists)
