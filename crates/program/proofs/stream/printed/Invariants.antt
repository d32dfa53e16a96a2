use Rattle.std.proofs.Common.{◌≡◌}
use Rattle.program.proofs.stream.printed.Given as goal

abbrev pub invariant-loop : goal.invariant-loop
invariant-loop g l = g.P.Printer.printed l.to ≡ g.P.Printer.printed l.fn.to
