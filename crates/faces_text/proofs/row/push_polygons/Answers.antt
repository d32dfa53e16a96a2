use Rattle.std.proofs.Common.{◌∙◌, ◌++◌, List, ap}
use Rattle.std.proofs.lemmas.Result.{on_ok_weaker}
use Rattle.geom.specs.declared.point.Pt.{Pt}
use Rattle.wkt.specs.Canonical.{first_ring}
use Rattle.faces_text.specs.Line.{holes_text}
use Rattle.faces_text.proofs.Line.{line_of}
use Rattle.faces_text.proofs.row.push_polygons.Goals as goal

pub returns : goal.returns
returns g c =
    on_ok_weaker c.push_line_end.result
    (λ e. line_of c.in-Some.first.now c.in-Some.rest.now c.args.polygons.now c.args.text.now.items c.push_first_ring.new.text.items c.push_holes.new.text.items c.push_more_polygons.new.text.items c.push_line_end.new.text.items
    c.in-Some.ensures.cases.0
    (c.in_ok-push_first_ring.ensures.text ∙ ap (λ (r : List Pt). c.args.text.now.items ++ first_ring r) c.shell.ensures)
    (c.in_ok-push_holes.ensures ∙ ap (λ (h : List (List Pt)). c.push_first_ring.new.text.items ++ holes_text h) c.holes.ensures)
    c.in_ok-push_more_polygons.ensures
    e)
    c.push_line_end.ensures
