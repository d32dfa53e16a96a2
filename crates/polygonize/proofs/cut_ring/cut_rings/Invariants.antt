use Rattle.std.proofs.Common.{◌≡◌, length}
use Rattle.polygonize.specs.CutRing.{AreCyclesCut}
use Rattle.polygonize.proofs.cut_ring.cut_rings.Given as goal

abbrev pub invariant-loop-number : goal.invariant-loop-number
invariant-loop-number g l = (length l.places.items ≡ length l.edges.list.now) × AreCyclesCut l.edges.list.now l.cycles l.from l.number l.rings.items
