-- The laws are two lemmas.
use Rattle.engine.proofs.OnePairsRefusal.{pairs_refusal_is_one, refused_pairs_may_not_run}
use Rattle.engine.proofs.laws.pairs_refused_for_one_reason.Goals as goal

pub returns-clause-reason : goal.returns-clause-reason
returns-clause-reason c = pairs_refusal_is_one

pub returns-clause-answered : goal.returns-clause-answered
returns-clause-answered c = refused_pairs_may_not_run
