use Rattle.std.proofs.Common.{refl, arith}
use Rattle.std.proofs.lemmas.Int.{ints}
use Rattle.hot_region.proofs.HalvingLaws.{halves_by_x}
use Rattle.hot_region.proofs.halving.columns.Goals as goal

pub returns-clause-halves : goal.returns-clause-halves
returns-clause-halves c = halves_by_x c.args.rect.now _ _ c.middle-x.result refl refl (omega (arith, ints)) (omega (arith, ints)) (omega (arith, ints)) (omega (arith, ints)) refl refl (omega (arith, ints)) (omega (arith, ints))
