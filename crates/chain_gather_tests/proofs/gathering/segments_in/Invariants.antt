use Rattle.std.specs.Prelude.{All}
use Rattle.geom.specs.Box.{IsInBox}
use Rattle.geom.specs.Limit.{AreInLimit}
use Rattle.chain_gather_tests.proofs.gathering.segments_in.Given as goal

abbrev pub invariant-loop-pair : goal.invariant-loop-pair
invariant-loop-pair g l = All (λ s. AreInLimit s.a s.b × IsInBox l.bounds.lo l.bounds.hi s.a × IsInBox l.bounds.lo l.bounds.hi s.b) l.segments.items
