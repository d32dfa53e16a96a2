use Rattle.std.proofs.Common.{◌≡◌, map, take}
use Rattle.overlay_c.specs.StripLabels.{told_directed}
use Rattle.overlay_c.proofs.strip_labels.told_directed_all.Given as goal

abbrev pub invariant-loop-edge : goal.invariant-loop-edge
invariant-loop-edge l = l.items.items ≡ map told_directed (take l.edge-index l.edges)
