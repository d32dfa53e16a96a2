use Rattle.std.proofs.lemmas.Result.{IfOk-weaker}
use Rattle.label_sweep.proofs.SweptStrips.{all_swept}
use Rattle.label_sweep.proofs.swept.swept_edges.Goals as goal

pub returns : goal.returns
returns g c = IfOk-weaker c.strip_beside.result _ _ (λ swept h. all_swept c.args.counted.now c.requires.ascending swept.items h) c.strip_beside.ensures
