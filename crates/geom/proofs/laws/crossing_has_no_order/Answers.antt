use Rattle.geom.proofs.Meaning.{crossing_is_symmetric, crossing_has_no_direction}
use Rattle.geom.proofs.laws.crossing_has_no_order.Goals as goal

pub returns-clause-symmetric : goal.returns-clause-symmetric
returns-clause-symmetric c = crossing_is_symmetric

pub returns-clause-no_direction : goal.returns-clause-no_direction
returns-clause-no_direction c = crossing_has_no_direction
