use Rattle.std.proofs.Common.{ap, arith}
use Rattle.std.proofs.lemmas.List.{get_or_default}
use Rattle.polygonize.specs.declared.closing.EdgeEnd.{EdgeEnd}
use Rattle.polygonize.proofs.ClosedVertices.Going.{least_more}
use Rattle.polygonize.proofs.closing.least_place.Goals as goal

pub loop-k-preserved : goal.loop-k-preserved
loop-k-preserved c =
    let ends = c.args.ends.now in
    let k = c.loop-k.k in
    let x = c.index-ends-k.result in
    let some = c.loop-k.auto.k in
    let inside = c.requires.inside in
    let within = c.loop-k-test.true in
    least_more ends c.args.from k c.loop-k.least _ c.min-least.result (omega (arith, some)) (λ d. ap (λ (e : EdgeEnd). e.way.place) (get_or_default ends k d x (omega (arith, within, inside)))) c.min-least.ensures c.loop-k.invariant
