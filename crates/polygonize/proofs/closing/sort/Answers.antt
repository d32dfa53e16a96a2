use Rattle.std.proofs.Common.{◌≡◌, rules}
use Rattle.std.specs.Ordering.{is_lt}
use Rattle.std.proofs.lemmas.List.Sorted.{answers_always}
use Rattle.polygonize.specs.Closing.{is_sooner_end}
use Rattle.polygonize.proofs.ClosedVertices.Ends.{ends_order}
use Rattle.polygonize.proofs.closing.sort.Goals as goal

pub returns-clause-sorted : goal.returns-clause-sorted
returns-clause-sorted c = c.sort_unstable_by.ensures.sorted is_sooner_end ends_order (answers_always _ (λ a r. is_lt r ≡ is_sooner_end a.0.now a.1.0.now) _ (λ f a r q k. search rules))
