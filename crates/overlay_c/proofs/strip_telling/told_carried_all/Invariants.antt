use Rattle.std.proofs.Common.{◌≡◌, map, take}
use Rattle.overlay_c.specs.Strips.{told_carried}
use Rattle.overlay_c.proofs.strip_telling.told_carried_all.Given as goal

abbrev pub invariant-loop-one : goal.invariant-loop-one
invariant-loop-one l = l.items.items ≡ map told_carried (take l.one-index l.carried)
