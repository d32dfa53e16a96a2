-- Both laws are one lemma.
use Rattle.layers.specs.Refusals.{segment_limit}
use Rattle.engine.proofs.OneTiling.{tiles_are_one}
use Rattle.engine.proofs.laws.tiles_are_one.Goals as goal

pub returns-clause-tiles : goal.returns-clause-tiles
returns-clause-tiles g c = tiles_are_one _ _ segment_limit segment_limit

pub returns-clause-within : goal.returns-clause-within
returns-clause-within g c = tiles_are_one _ _
