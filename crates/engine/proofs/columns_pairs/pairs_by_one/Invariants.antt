use Rattle.engine.proofs.PairsRunning.{AreMadeTo}
use Rattle.engine.proofs.columns_pairs.pairs_by_one.Given as goal

abbrev pub invariant-loop-feature : goal.invariant-loop-feature
invariant-loop-feature g l = AreMadeTo l.op l.a l.b l.feature l.results
