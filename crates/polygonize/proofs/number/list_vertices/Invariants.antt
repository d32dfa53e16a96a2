use Rattle.std.proofs.Common.{◌≡◌, map, slice_index, take}
use Rattle.polygonize.proofs.number.list_vertices.Given as goal

abbrev pub invariant-loop-place : goal.invariant-loop-place
invariant-loop-place g l = l.ring.items ≡ map (λ k. slice_index l.numbers k) (take l.place-index l.cycle)
