-- From what the engine measures to what a call on columns tells.
use Rattle.std.proofs.Common.{◌≡◌, ℕ}
use Rattle.std.specs.Prelude.{Some}
use Rattle.geom.specs.declared.op.Op.{Op}
use Rattle.columns.specs.declared.layout.Columns.{Columns}
use Rattle.engine.specs.declared.columns_output.ColumnsOutput.{ColumnsOutput}
use Rattle.engine.specs.declared.measures.Measures.{Measures}
use Rattle.engine.specs.Measures.{AreColumnsMeasured}
use Rattle.engine.specs.Runs.{alone}
use Rattle.overlay_c.specs.declared.measured.OverlayMeasures.{OverlayMeasures}
use Rattle.overlay_c.specs.Columns.{lists_of, op_from}
use Rattle.overlay_c.specs.Measured.{AreMeasuredColumns, told_measures}

pub columns_measured : {M : Type 0} (limit call side : ℕ) (a b : Columns) (op : Op) → op_from call ≡ Some op → (made : ColumnsOutput M) (measures : Measures) (told : OverlayMeasures)
    → AreColumnsMeasured limit op (alone side) a b made measures → told ≡ told_measures measures → AreMeasuredColumns limit call side a b (lists_of made.columns) told
columns_measured limit call side a b op asked made measures told h is =
    let c = h.columns in
    record {
      op = op;
      asked = asked;
      may = (c.reports.grid, record { accepted = c.accepted; ready = c.reports.ready });
      segments = c.reports.rounded.segments;
      are_segments = c.reports.rounded.are_segments;
      counted = c.counted;
      rounded = c.reports.rounded.rounded;
      shapes = c.polygons;
      result = c.result;
      columns = record { points = c.columns.have.points; rings = c.columns.have.offsets; polygons = c.columns.offsets };
      measures = measures;
      layers = h.layers;
      area = h.area;
      told_is = is;
    }
