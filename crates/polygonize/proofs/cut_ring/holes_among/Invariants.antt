use Rattle.std.proofs.Common.{◌<◌, length, slice_index_or}
use Rattle.std.specs.Prelude.{IsTrue}
use Rattle.polygonize.proofs.Filtered.{AscendBelow, KeptSoFar}
use Rattle.polygonize.proofs.cut_ring.holes_among.Given as goal

abbrev pub invariant-loop-number : goal.invariant-loop-number
invariant-loop-number g l = KeptSoFar (λ m. m) (λ k. (k < length l.rings) × ((d : _) → IsTrue (slice_index_or l.rings k d).is_hole)) (λ r. (d : _) → IsTrue (slice_index_or l.rings r d).is_hole) l.number l.holes.items × AscendBelow l.number l.holes.items
