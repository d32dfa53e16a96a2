use Rattle.std.proofs.Common.{◌≡◌, ◌++◌, take}
use Rattle.faces_text.specs.Line.{polygons_text}
use Rattle.faces_text.proofs.row.push_more_polygons.Given as goal

abbrev pub invariant-loop-polygon : goal.invariant-loop-polygon
invariant-loop-polygon g l = l.text.items ≡ l.fn.text.items ++ polygons_text (take l.polygon-index l.polygons)
