use Rattle.geom.proofs.Meaning.{route_is_one, route_runs_from_end_to_end}
use Rattle.geom.proofs.laws.route_is_one.Goals as goal

pub returns-clause-one : goal.returns-clause-one
returns-clause-one c = route_is_one

pub returns-clause-from_end_to_end : goal.returns-clause-from_end_to_end
returns-clause-from_end_to_end c = route_runs_from_end_to_end
