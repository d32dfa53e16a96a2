use Rattle.polygonize.specs.Closing.{AreBothEnds}
use Rattle.polygonize.proofs.closing.both_ends.Given as goal

abbrev pub invariant-loop-place : goal.invariant-loop-place
invariant-loop-place g l = AreBothEnds l.edges l.place l.ends.items
