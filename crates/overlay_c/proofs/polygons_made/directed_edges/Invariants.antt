use Rattle.std.proofs.Common.{◌≡◌, map, take}
use Rattle.overlay_c.specs.Polygons.{directed_edge}
use Rattle.overlay_c.proofs.polygons_made.directed_edges.Given as goal

abbrev pub invariant-loop-item : goal.invariant-loop-item
invariant-loop-item l = l.edges.items ≡ map directed_edge (take l.item-index l.items)
