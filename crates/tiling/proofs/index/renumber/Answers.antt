use Rattle.std.proofs.Common.{arith, refl, ◌∙◌}
use Rattle.std.proofs.lemmas.List.{length-set}
use Rattle.tiling.proofs.Finding.{renumbered}
use Rattle.tiling.proofs.index.renumber.Goals as goal

pub loop-i-preserved : goal.loop-i-preserved
loop-i-preserved c = record {
  within = omega arith;
  same = length-set _ _ _ ∙ c.loop-i.invariant.same;
  done = renumbered _ _ _ _ _ (omega arith) c.loop-i.invariant.done refl;
}
