use Rattle.wkt.proofs.Cuts.{same_features, stands_apart, stands_joined}
use Rattle.wkt.proofs.laws.one_list_of_features.Goals as goal

pub returns-clause-one : goal.returns-clause-one
returns-clause-one c = same_features

pub returns-clause-rings : goal.returns-clause-rings
returns-clause-rings c = stands_joined

pub returns-clause-some : goal.returns-clause-some
returns-clause-some c = stands_apart
