-- The laws are two lemmas.
use Rattle.engine.proofs.OneColumns.{columns_answer_is_one, columns_sizes_are_one}
use Rattle.engine.proofs.laws.columns_answer_is_one.Goals as goal

pub returns-clause-columns : goal.returns-clause-columns
returns-clause-columns g c = columns_answer_is_one _ _

pub returns-clause-sizes : goal.returns-clause-sizes
returns-clause-sizes g c = columns_sizes_are_one _ _
