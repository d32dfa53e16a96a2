use Rattle.std.proofs.Common.{map, take}
use Rattle.edge_lines.specs.Lines.{AreEdges}
use Rattle.edge_lines.proofs.text.edges_of.Given as goal

abbrev pub invariant-loop-i : goal.invariant-loop-i
invariant-loop-i g l = AreEdges (take l.i (map (λ t. t.now) l.lines)) l.edges.items
