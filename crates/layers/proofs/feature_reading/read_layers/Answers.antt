use Rattle.std.proofs.Common.{List, arith, subst, sym, ℕ}
use Rattle.layers.proofs.InLayers.{text_at, text_next}
use Rattle.layers.specs.FeatureLayers.{AreReadLayers}
use Rattle.layers.specs.Refusals.{text_limit}
use Rattle.layers.proofs.feature_reading.read_layers.Goals as goal

pub returns-in-Err : goal.returns-in-Err
returns-in-Err g c =
    let read = c.loop-number.invariant.read in (
      c.loop-number.number,
      c.in-Err.fault,
      c.layer_fault.ensures.at,
      c.layer_fault.ensures.refusal,
      record {
        text = _;
        is_at = text_at c.args.layers.now c.loop-number.number _ c.loop-number-test.true;
        refused = c.in-Err.ensures;
        before = read.layers;
        accepted = record { short = read.short; stand = read.stand };
      },
    )

pub loop-number-preserved : goal.loop-number-preserved
loop-number-preserved g c = record {
  read = subst (λ (ts : List (List ℕ)). AreReadLayers (text_limit c.args.limits.segments) ts c.and-read.result) (sym (text_next c.args.layers.now c.loop-number.number _ c.loop-number-test.true))
      (c.and-read.ensures.read _ _ (text_limit c.args.limits.segments) c.loop-number.invariant.read c.in-Ok.ensures);
  few = omega (arith, c.and-read.ensures.few, c.loop-number.invariant.few);
}

pub loop-number-init : goal.loop-number-init
loop-number-init g c = record { read = c.none-read.ensures.read (text_limit c.args.limits.segments); few = omega (arith, c.none-read.ensures.none) }
