use Rattle.strip_polygons.specs.Parting.{AreOpenRoots}
use Rattle.strip_polygons.proofs.parting.open_roots.Given as goal

abbrev pub invariant-loop-place : goal.invariant-loop-place
invariant-loop-place g l = AreOpenRoots l.cuts l.from l.past l.known l.roots l.place l.flags.items
