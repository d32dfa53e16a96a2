use Rattle.std.proofs.Common.{refl, arith}
use Rattle.std.proofs.lemmas.Int.{ints}
use Rattle.hot_region.proofs.HalvingLaws.{halves_by_y}
use Rattle.hot_region.proofs.halving.rows.Goals as goal

pub returns-clause-halves : goal.returns-clause-halves
returns-clause-halves c = halves_by_y c.args.rect.now _ _ c.middle-y.result refl refl (omega (arith, ints)) (omega (arith, ints)) (omega (arith, ints)) (omega (arith, ints)) refl refl (omega (arith, ints)) (omega (arith, ints))
