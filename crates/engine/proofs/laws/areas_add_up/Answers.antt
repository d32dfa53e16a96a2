use Rattle.engine.proofs.AreasAddUp.{areas_add_up, measures_add_up}
use Rattle.engine.proofs.laws.areas_add_up.Goals as goal

pub returns-clause-areas : goal.returns-clause-areas
returns-clause-areas g c = areas_add_up

pub returns-clause-measures : goal.returns-clause-measures
returns-clause-measures g c = measures_add_up _ _
