use Rattle.std.proofs.Common.{◌≡◌, length, take}
use Rattle.overlay_c.specs.FacesColumns.{layers_in}
use Rattle.overlay_c.proofs.faces_columns.columns_of_layers.Given as goal

abbrev pub invariant-loop-number : goal.invariant-loop-number
invariant-loop-number l = record {
  size : length l.all ≡ 64;
  same : take l.number l.all ≡ layers_in (take l.number l.layers);
}
