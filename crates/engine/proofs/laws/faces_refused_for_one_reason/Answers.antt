-- The laws are three lemmas.
use Rattle.engine.proofs.OneFacesRefusal.{faces_refusal_is_one, refused_are_not_written, refused_may_not_round}
use Rattle.engine.proofs.laws.faces_refused_for_one_reason.Goals as goal

pub returns-clause-reason : goal.returns-clause-reason
returns-clause-reason g c = faces_refusal_is_one

pub returns-clause-answered : goal.returns-clause-answered
returns-clause-answered g c = refused_are_not_written _

pub returns-clause-memory : goal.returns-clause-memory
returns-clause-memory g c = refused_may_not_round
