-- The laws are two lemmas.
use Rattle.engine.proofs.OneColumnsRefusal.{columns_refusal_is_one, refused_columns_may_not_run}
use Rattle.engine.proofs.laws.columns_refused_for_one_reason.Goals as goal

pub returns-clause-reason : goal.returns-clause-reason
returns-clause-reason c = columns_refusal_is_one

pub returns-clause-answered : goal.returns-clause-answered
returns-clause-answered c = refused_columns_may_not_run
