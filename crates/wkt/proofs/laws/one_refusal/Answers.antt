use Rattle.wkt.proofs.Exclusive.{not_both, same_refusal}
use Rattle.wkt.proofs.laws.one_refusal.Goals as goal

pub returns-clause-reason : goal.returns-clause-reason
returns-clause-reason c = same_refusal

pub returns-clause-accepted : goal.returns-clause-accepted
returns-clause-accepted c = not_both
