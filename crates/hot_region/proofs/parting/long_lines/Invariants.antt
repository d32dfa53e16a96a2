use Rattle.std.specs.Prelude.{All}
use Rattle.geom.specs.Limit.{AreInLimit}
use Rattle.hot_region.proofs.parting.long_lines.Given as goal

abbrev pub invariant-loop-k : goal.invariant-loop-k
invariant-loop-k g l = All (λ e. AreInLimit e.p e.q) l.long.items
