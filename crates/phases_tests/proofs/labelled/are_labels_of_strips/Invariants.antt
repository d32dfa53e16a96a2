use Rattle.std.proofs.Common.{List, ◌∷◌, []}
use Rattle.std.proofs.Math.IntN.{ℤ, pos}
use Rattle.phases.specs.Labels.{ComeInto}
use Rattle.phases_tests.proofs.labelled.are_labels_of_strips.Given as goal

-- the cuts of the five strips
abbrev pub cuts : List ℤ
cuts = pos 2 ∷ pos 2 ∷ pos 6 ∷ pos 7 ∷ []

-- the edges that come into the next strip
abbrev pub invariant-loop-strip : goal.invariant-loop-strip
invariant-loop-strip l = ComeInto cuts l.strip l.counted.items l.crossing.items
