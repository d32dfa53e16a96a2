use Rattle.std.proofs.Common.{◌≡◌, ◌∙◌, arith, length, rules}
use Rattle.rows.proofs.Behind.{all_behind, offset_behind}
use Rattle.rows.proofs.row_columns.RowPolygons.push.Goals as goal

pub returns : goal.returns
returns g c = λ lists h.
    let polygons = c.args.polygons.items in
    let past = c.in_ok-map_err.field-0 in
    let value : past ≡ c.len-past.result = search rules in
    let long : c.len-past.result ≡ length c.append.new.self.items = omega (arith, c.len-past.ensures, c.append.new.self.ok) in
    let all = all_behind lists polygons c.args.self.now.polygons.items c.append.new.self.items h.polygons c.in_ok-append.ensures.items in
    record {
      polygons = all;
      rows = offset_behind lists polygons c.append.new.self.items c.args.self.now.rows.items c.push.new.self.items past all h.rows c.in_ok-push.ensures.items (value ∙ long);
    }
