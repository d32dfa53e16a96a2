use Rattle.std.proofs.Common.{List, subst, take}
use Rattle.std.proofs.lemmas.List.{take_all}
use Rattle.columns.specs.declared.layout.Columns.{Columns}
use Rattle.layers.specs.ColumnLayers.{features_in}
use Rattle.layers.specs.FeatureSegments.{AreFeaturesOf}
use Rattle.layers.proofs.ColumnLayers.{accepted_at, next_layer}
use Rattle.layers.proofs.column_layers.column_segments.Goals as goal

pub push_columns-requires-clause-accepted : goal.push_columns-requires-clause-accepted
push_columns-requires-clause-accepted g c = accepted_at c.args.layers.now c.loop-layer.layer-index _ c.loop-layer-test.true c.requires

pub loop-layer-preserved : goal.loop-layer-preserved
loop-layer-preserved g c =
    subst (λ ls. AreFeaturesOf ls c.push_columns.new.self) (next_layer c.args.layers.now c.loop-layer.layer-index _ c.loop-layer-test.true)
    (c.in_ok-push_columns.ensures (features_in (take c.loop-layer.layer-index c.args.layers.now)) c.loop-layer.invariant)

pub returns : goal.returns
returns g c =
    subst (λ (ls : List Columns). AreFeaturesOf (features_in ls) c.loop-layer.all) (take_all c.loop-layer.layer-index c.args.layers.now c.loop-layer-test.false) c.loop-layer.invariant
