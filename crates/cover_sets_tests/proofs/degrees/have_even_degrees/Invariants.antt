use Rattle.std.proofs.Common.{ℕ, ◌<◌, get_or}
use Rattle.cover_sets_tests.specs.Deciding.{HasEvenEnds}
use Rattle.cover_sets_tests.proofs.degrees.have_even_degrees.Given as goal

abbrev pub invariant-loop-f : goal.invariant-loop-f
invariant-loop-f l = (k : ℕ) → k < l.f-index → HasEvenEnds l.features l.borders (get_or l.features k 0)
