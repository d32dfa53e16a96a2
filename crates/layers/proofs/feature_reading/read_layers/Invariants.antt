use Rattle.std.proofs.Common.{◌*◌, ◌≤◌, map, take}
use Rattle.layers.specs.FeatureLayers.{AreReadLayers}
use Rattle.layers.specs.Refusals.{text_limit}
use Rattle.layers.proofs.feature_reading.read_layers.Given as goal

abbrev pub invariant-loop-number : goal.invariant-loop-number
invariant-loop-number g l = record {
  read : AreReadLayers (text_limit l.limits.segments) (take l.number (map (λ t. t.now) l.layers)) l.read;
  few : l.read.segments ≤ l.number * 4_294_967_295;
}
