use Rattle.std.proofs.Common.{rules, ◌≡◌}
use Rattle.std.specs.Ordering.{is_lt}
use Rattle.std.proofs.lemmas.List.Sorted.{answers_always}
use Rattle.label_sweep.proofs.Heights.{is_higher, by_height}
use Rattle.label_sweep.proofs.column.sort_by_height.Goals as goal

pub returns-clause-sorted : goal.returns-clause-sorted
returns-clause-sorted g c = c.sort_unstable_by.ensures.sorted is_higher by_height (answers_always _ (λ a r. is_lt r ≡ is_higher a.0.now a.1.0.now) _ (λ f a r q k. search rules))
