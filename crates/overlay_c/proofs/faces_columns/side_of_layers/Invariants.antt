use Rattle.std.proofs.Common.{take}
use Rattle.overlay_c.specs.FacesColumns.{layers_in}
use Rattle.overlay_c.proofs.FitsLayers.{AreBoxedLayers}
use Rattle.overlay_c.proofs.faces_columns.side_of_layers.Given as goal

abbrev pub invariant-loop-layer : goal.invariant-loop-layer
invariant-loop-layer l = AreBoxedLayers (layers_in (take l.layer-index l.layers)) l.bounds
