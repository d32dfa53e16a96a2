use Rattle.std.proofs.Common.{◌*◌, ◌≤◌, take}
use Rattle.layers.specs.ColumnLayers.{AreSurveyed}
use Rattle.layers.proofs.column_layers.survey_layers.Given as goal

abbrev pub invariant-loop-number : goal.invariant-loop-number
invariant-loop-number l = record {
  all : AreSurveyed (take l.number l.layers) l.all;
  few : l.all.segments ≤ l.number * 4_294_967_295;
}
