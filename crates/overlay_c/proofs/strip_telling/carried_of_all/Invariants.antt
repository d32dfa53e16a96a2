use Rattle.std.proofs.Common.{◌≡◌, map, take}
use Rattle.overlay_c.specs.Strips.{told_carried}
use Rattle.overlay_c.proofs.strip_telling.carried_of_all.Given as goal

abbrev pub invariant-loop-item : goal.invariant-loop-item
invariant-loop-item l = take l.item-index l.items ≡ map told_carried l.carried.items
