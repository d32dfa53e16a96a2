-- The laws are three lemmas.
use Rattle.engine.proofs.OneFaceColumns.{face_columns_refusal_is_one, refused_face_columns_are_not_made, refused_may_not_round_columns}
use Rattle.engine.proofs.laws.face_columns_refused_for_one_reason.Goals as goal

pub returns-clause-reason : goal.returns-clause-reason
returns-clause-reason g c = face_columns_refusal_is_one

pub returns-clause-answered : goal.returns-clause-answered
returns-clause-answered g c = refused_face_columns_are_not_made _

pub returns-clause-memory : goal.returns-clause-memory
returns-clause-memory g c = refused_may_not_round_columns
