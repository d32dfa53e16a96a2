use Rattle.std.proofs.Common.{ℕ, ◌<◌, get_or}
use Rattle.cover_law.specs.declared.border.Border.{Border}
use Rattle.cover_sets_tests.specs.Deciding.{EndsAreEven}
use Rattle.cover_sets_tests.proofs.degrees.ends_are_even.Given as goal

abbrev pub invariant-loop-b : goal.invariant-loop-b
invariant-loop-b l = (k : ℕ) (d : Border) → k < l.b-index → EndsAreEven l.features l.f l.borders (get_or l.borders k d)
