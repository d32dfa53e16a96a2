use Rattle.std.proofs.Common.{◌∙◌, List, ap, map, subst, sym}
use Rattle.std.proofs.lemmas.Simd.{map-map}
use Rattle.geom.specs.Canonical.{Shape}
use Rattle.columns.specs.Answers.{AreColumnsOf}
use Rattle.cover_law.specs.Areas.{row_area}
use Rattle.rows.specs.Made.{row_of}
use Rattle.rows.specs.declared.parts.Row.{Row}
use Rattle.rows.specs.RowColumns.{HaveLists, set_lists}
use Rattle.rows.proofs.row_columns.columns_of_rows.Goals as goal

pub returns : goal.returns
returns g c =
    let counts = c.args.counts.now in
    let shapes = c.in_ok-polygons.ensures in
    record {
      areas = c.in_ok-twice_areas.ensures ∙ ap (map (λ (r : Row g.row.A.Denot). row_area (row_of r))) c.deref.ensures.value ∙ sym (map-map row_area row_of c.args.rows.items);
      features = subst (λ (rs : List (Row g.row.A.Denot)). HaveLists (set_lists 0 counts (map row_of rs)) c.in_ok-features.features) c.deref-2.ensures.value c.in_ok-features.ensures;
      polygons = subst (λ (ps : List Shape). AreColumnsOf ps c.in_ok-columns.columns) (c.deref-3.ensures.value ∙ shapes.polygons) c.in_ok-columns.ensures.columns;
      begin = shapes.rows;
    }
