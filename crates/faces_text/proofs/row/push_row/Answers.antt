use Rattle.std.proofs.Common.{rules, ◌≡◌, ◌∙◌, ap, of_z, sym, to_z}
use Rattle.std.specs.Fmt.{signed_decimal}
use Rattle.std.specs.Int.{w128}
use Rattle.std.specs.Prelude.{◌++◌}
use Rattle.std.proofs.lemmas.Result.{on_ok_weaker}
use Rattle.faces_text.specs.Text.{fields_text}
use Rattle.wkt.specs.Canonical.{multi_text}
use Rattle.faces_text.proofs.Fields.{line_whole}
use Rattle.faces_text.proofs.row.push_row.Goals as goal

pub returns : goal.returns
returns g c row set polygons area =
    let same : to_z w128 (of_z w128 c.args.twice_area) ≡ c.args.twice_area = search rules in
    let line = multi_text c.args.polygons.now in
    on_ok_weaker c.push_polygons.result
    (λ e. line_whole c.args.counts.now row c.args.text.now.items c.push_area.new.text.items c.push_fields.new.text.items c.push.new.self.items c.push_polygons.new.text.items line
    (c.in_ok-push_area.ensures ∙ ap (λ a. c.args.text.now.items ++ signed_decimal a) (same ∙ area))
    (c.in_ok-push_fields.ensures ∙ ap (λ s. c.push_area.new.text.items ++ fields_text 0 c.args.counts.now s) (sym set))
    c.in_ok-push.ensures.items
    (ap multi_text (sym polygons))
    e)
    c.push_polygons.ensures
