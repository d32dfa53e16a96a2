use Rattle.std.proofs.Common.{◌≡◌, take}
use Rattle.std.specs.Prelude.{count_by}
use Rattle.cover_sets_tests.specs.Deciding.{ends_at}
use Rattle.cover_sets_tests.proofs.degrees.degree.Given as goal

abbrev pub invariant-loop-b : goal.invariant-loop-b
invariant-loop-b l = l.count ≡ count_by (ends_at l.features l.f l.v) (take l.b-index l.borders)
