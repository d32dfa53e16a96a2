use Rattle.std.proofs.Common.{◌≡◌, Some, arith, length, refl}
use Rattle.std.specs.Prelude.{slice_get}
use Rattle.std.proofs.lemmas.Option.{slice_get_read}
use Rattle.hot_region.specs.Rects.{IsIn}
use Rattle.noding_test.proofs.VerdictLaws.{none_bad, first_bad}
use Rattle.noding_test.proofs.finding.least_bad.Goals as goal

pub returns-in-Some : goal.returns-in-Some
returns-in-Some c =
    let edges = c.args.edges.now in
    let e = c.index-edges-place.result in
    let at : slice_get edges c.loop-place.place ≡ Some e = slice_get_read edges (length edges) c.loop-place.place e refl c.loop-place-test.true c.index-edges-place.is in
    first_bad edges c.requires.ascending (IsIn c.args.tile.now) c.loop-place.place e c.in-Some.other at c.loop-place.invariant c.in-Some.ensures

pub returns : goal.returns
returns c = none_bad c.args.edges.now c.requires.ascending (IsIn c.args.tile.now) (λ i l. c.loop-place.invariant i (let h = c.loop-place-test.false in omega arith))
