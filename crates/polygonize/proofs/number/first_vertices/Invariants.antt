use Rattle.std.proofs.Common.{◌≡◌, map, take}
use Rattle.polygonize.specs.Next.{first_vertex}
use Rattle.polygonize.proofs.number.first_vertices.Given as goal

abbrev pub invariant-loop-number : goal.invariant-loop-number
invariant-loop-number g l = l.vertices.items ≡ map (first_vertex l.edges l.cycles) (take l.number-index l.numbers)
