use Rattle.std.proofs.Common.{◌≡◌, map, take}
use Rattle.overlay_c.specs.Strips.{told_open}
use Rattle.overlay_c.proofs.strip_telling.opens_of.Given as goal

abbrev pub invariant-loop-item : goal.invariant-loop-item
invariant-loop-item l = take l.item-index l.items ≡ map told_open l.opens.items
