use Rattle.strip_polygons.specs.Parting.{AreRightward}
use Rattle.strip_polygons.proofs.ties.rightward.Given as goal

abbrev pub invariant-loop-place : goal.invariant-loop-place
invariant-loop-place g l = AreRightward l.directed l.place l.places.items
