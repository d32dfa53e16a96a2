use Rattle.wkt.proofs.Complete.{at_most_one}
use Rattle.wkt.proofs.Exclusive.{same_reading}
use Rattle.wkt.proofs.laws.one_reading.Goals as goal

pub returns-clause-written : goal.returns-clause-written
returns-clause-written c = at_most_one

pub returns-clause-plain : goal.returns-clause-plain
returns-clause-plain c = same_reading
