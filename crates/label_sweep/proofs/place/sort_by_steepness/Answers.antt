use Rattle.std.proofs.Common.{rules, ◌≡◌}
use Rattle.std.specs.Ordering.{is_lt}
use Rattle.std.proofs.lemmas.List.Sorted.{answers_always}
use Rattle.label_sweep.proofs.Steepness.{comes_first, steepness}
use Rattle.label_sweep.proofs.place.sort_by_steepness.Goals as goal

pub returns-clause-sorted : goal.returns-clause-sorted
returns-clause-sorted g c = c.sort_unstable_by.ensures.sorted comes_first steepness (answers_always _ (λ a r. is_lt r ≡ comes_first a.0.now a.1.0.now) _ (λ f a r q k. search rules))
