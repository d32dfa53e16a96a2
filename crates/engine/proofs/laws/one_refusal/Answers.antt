-- The laws are two lemmas.
use Rattle.layers.specs.Refusals.{segment_limit}
use Rattle.engine.proofs.OneRefusal.{refusal_is_one, refused_may_not_run}
use Rattle.engine.proofs.laws.one_refusal.Goals as goal

pub returns-clause-reason : goal.returns-clause-reason
returns-clause-reason c = refusal_is_one segment_limit

pub returns-clause-answered : goal.returns-clause-answered
returns-clause-answered c = refused_may_not_run segment_limit

pub returns-clause-reason_within : goal.returns-clause-reason_within
returns-clause-reason_within c = refusal_is_one

pub returns-clause-answered_within : goal.returns-clause-answered_within
returns-clause-answered_within c = refused_may_not_run
