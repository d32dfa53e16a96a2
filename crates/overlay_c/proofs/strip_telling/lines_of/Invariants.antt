use Rattle.std.proofs.Common.{◌≡◌, map, take}
use Rattle.overlay_c.specs.Strips.{told_line}
use Rattle.overlay_c.proofs.strip_telling.lines_of.Given as goal

abbrev pub invariant-loop-item : goal.invariant-loop-item
invariant-loop-item l = take l.item-index l.items ≡ map told_line l.lines.items
