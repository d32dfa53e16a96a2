use Rattle.label_sweep.proofs.Straight.{upright_is_next}
use Rattle.label_sweep.proofs.laws.upright_is_next.Goals as goal

pub returns : goal.returns
returns c = upright_is_next
