-- The laws are two lemmas.
use Rattle.layers.specs.Refusals.{segment_limit}
use Rattle.engine.proofs.Determined.{edges_sizes_are_one, edges_text_is_one}
use Rattle.engine.proofs.laws.edges_text_is_one.Goals as goal

pub returns-clause-text : goal.returns-clause-text
returns-clause-text g c = edges_text_is_one _ _ segment_limit segment_limit

pub returns-clause-sizes : goal.returns-clause-sizes
returns-clause-sizes g c = edges_sizes_are_one _ _ segment_limit segment_limit

pub returns-clause-text_within : goal.returns-clause-text_within
returns-clause-text_within g c = edges_text_is_one _ _

pub returns-clause-sizes_within : goal.returns-clause-sizes_within
returns-clause-sizes_within g c = edges_sizes_are_one _ _
