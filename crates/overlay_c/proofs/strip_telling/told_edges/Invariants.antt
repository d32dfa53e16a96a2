use Rattle.std.proofs.Common.{◌≡◌, map, take}
use Rattle.overlay_c.specs.Strips.{told_counted}
use Rattle.overlay_c.proofs.strip_telling.told_edges.Given as goal

abbrev pub invariant-loop-counted : goal.invariant-loop-counted
invariant-loop-counted l = l.items.items ≡ map told_counted (take l.counted-index l.edges)
