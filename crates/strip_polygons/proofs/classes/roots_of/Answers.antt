use Rattle.std.proofs.Common.{◌<◌, length, arith}
use Rattle.std.proofs.lemmas.List.{get_or_read}
use Rattle.strip_polygons.proofs.RootsInLoops.{one_more_root}
use Rattle.strip_polygons.proofs.classes.roots_of.Goals as goal

pub loop-number-preserved : goal.loop-number-preserved
loop-number-preserved g c =
    let xs = c.loop-number.roots.items in
    let n = c.loop-number.number in
    let f = c.requires n in
    let was = c.loop-number.invariant.behind n (omega arith) in
    let len = c.loop-number.invariant.same_length in
    let inside : n < length xs = omega (arith, c.loop-number.roots.ok.0) in
    let once = get_or_read xs n c.index.result.now inside c.index.ensures 0 in
    let twice = get_or_read xs c.index.result.now c.index-in-loop-number.result.now (omega (arith, f, was, once, inside)) c.index-in-loop-number.ensures 0 in
    rw (twice, once) (one_more_root c.args.above.items xs n c.requires (omega (arith, inside, len)) c.loop-number.invariant)
