use Rattle.std.proofs.Common.{◌≡◌, false, map, slice_index_or, take}
use Rattle.strip_polygons.proofs.parting.flags_of_roots.Given as goal

abbrev pub invariant-loop-root : goal.invariant-loop-root
invariant-loop-root g l = l.told.items ≡ map (λ r. slice_index_or l.flags r false) (take l.root-index l.roots)
