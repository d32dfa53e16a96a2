use Rattle.std.proofs.Common.{List, arith, subst}
use Rattle.std.proofs.lemmas.List.{length-map, take_all}
use Rattle.columns.specs.declared.layout.Columns.{Columns}
use Rattle.columns.specs.Refusals.{AreRefused}
use Rattle.layers.proofs.JointBounds.{bounds_from_some}
use Rattle.overlay_c.specs.declared.columns_layer.OverlayColumns.{OverlayColumns}
use Rattle.overlay_c.specs.Columns.{columns_in}
use Rattle.overlay_c.specs.FacesColumns.{fitting, layers_in, many_layers}
use Rattle.overlay_c.proofs.FitsLayers.{AreBoxedLayers, fitting_layers, fitting_refused, next_boxed}
use Rattle.overlay_c.proofs.faces_columns.side_of_layers.Goals as goal

pub returns-then-layers-gt-MOST_LAYERS : goal.returns-then-layers-gt-MOST_LAYERS
returns-then-layers-gt-MOST_LAYERS c =
    let layers = c.args.layers.now in
    let same = length-map layers columns_in in
    let more = c.if-layers-gt-MOST_LAYERS.true in
    many_layers (omega (arith, same, more))

pub returns-in-Err : goal.returns-in-Err
returns-in-Err c =
    let layers = c.args.layers.now in
    let same = length-map layers columns_in in
    let few = c.if-layers-gt-MOST_LAYERS.false in
    fitting (omega (arith, same, few))
    (fitting_refused layers c.loop-layer.layer-index _ c.in-Err.field-0 c.loop-layer-test.true (subst (λ (x : Columns). AreRefused x c.in-Err.field-0) c.columns_from.ensures c.in-Err.ensures.answer))

pub loop-layer-preserved : goal.loop-layer-preserved
loop-layer-preserved c =
    let bounds = c.joint_bounds-bounds.ensures in
    let own = c.in-Ok.ensures in
    next_boxed c.args.layers.now c.loop-layer.layer-index _ c.columns_from.result c.loop-layer.bounds c.joint_bounds-bounds.result c.in-Ok.outline c.columns_from.ensures c.loop-layer-test.true c.loop-layer.invariant
    own.answer.0 own.answer.1 bounds.joint (bounds.in_limit c.loop-layer.invariant.in_limit (bounds_from_some c.in-Ok.outline.bounds own.in_limit))

pub returns : goal.returns
returns c =
    let layers = c.args.layers.now in
    let same = length-map layers columns_in in
    let few = c.if-layers-gt-MOST_LAYERS.false in
    fitting (omega (arith, same, few))
    (fitting_layers (layers_in layers) c.loop-layer.bounds c.default_side.result
    (subst (λ (ls : List OverlayColumns). AreBoxedLayers (layers_in ls) c.loop-layer.bounds) (take_all c.loop-layer.layer-index layers c.loop-layer-test.false) c.loop-layer.invariant) c.default_side.ensures)
