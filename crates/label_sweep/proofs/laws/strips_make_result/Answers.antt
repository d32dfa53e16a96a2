use Rattle.label_sweep.proofs.Directing.{strips_make_result}
use Rattle.label_sweep.proofs.laws.strips_make_result.Goals as goal

pub returns : goal.returns
returns c = strips_make_result
