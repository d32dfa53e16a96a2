use Rattle.std.proofs.Common.{◌∙◌, arith}
use Rattle.std.proofs.Math.ListN.{length-set}
use Rattle.overlay_c.proofs.PassedLayers.{one_more_layer}
use Rattle.overlay_c.proofs.faces_columns.columns_of_layers.Goals as goal

pub loop-number-preserved : goal.loop-number-preserved
loop-number-preserved c =
    let few = c.requires in
    let size = c.loop-number.invariant.size in
    let within = c.loop-number-test.true in
    record {
      size = length-set c.loop-number.all c.loop-number.number _ ∙ size;
      same = one_more_layer c.loop-number.all c.args.layers.now c.loop-number.number _ _ c.columns_from.ensures (omega (arith, few, size, within)) within c.loop-number.invariant.same;
    }
