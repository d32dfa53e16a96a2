use Rattle.std.proofs.Common.{rules}
use Rattle.rows.proofs.SetOrder.{none_before}
use Rattle.rows.proofs.parts.in_order.Goals as goal

pub returns-clause-sorted : goal.returns-clause-sorted
returns-clause-sorted g c = none_before (λ r. r.features.items) c.sort_unstable_by.new.self.items c.sort_unstable_by.ensures.sorted (λ a r f' k. search rules)
