use Rattle.std.proofs.Common.{◌≡◌, map, take}
use Rattle.rows.specs.RowSets.{edge_of}
use Rattle.rows.proofs.parts.put_edges.Given as goal

abbrev pub invariant-loop-edge : goal.invariant-loop-edge
invariant-loop-edge g l = l.directed.items ≡ map edge_of (take l.edge-index l.run)
