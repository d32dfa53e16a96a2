use Rattle.std.proofs.Common.{arith, to_z-of_z}
use Rattle.tiling.proofs.Indexing.{keys_more, left_fits}
use Rattle.tiling.proofs.index.sorted_keys.Goals as goal

pub loop-number-preserved : goal.loop-number-preserved
loop-number-preserved g c =
    let f = left_fits c.args.boxes.now c.lefts-lefts.result.now c.loop-number.number c.lefts-lefts.ensures.fit c.lefts-lefts.ensures.value (omega arith) in
    keys_more c.args.boxes.now c.lefts-lefts.result.now c.loop-number.number _ c.loop-number.keys.items c.push.new.self.items c.lefts-lefts.ensures.value (to_z-of_z f) c.loop-number.invariant c.in_ok-push.ensures.items
