use Rattle.std.proofs.Common.{take}
use Rattle.layers.specs.ColumnLayers.{features_in}
use Rattle.layers.specs.FeatureSegments.{AreFeaturesOf}
use Rattle.layers.proofs.column_layers.column_segments.Given as goal

abbrev pub invariant-loop-layer : goal.invariant-loop-layer
invariant-loop-layer g l = AreFeaturesOf (features_in (take l.layer-index l.layers)) l.all
