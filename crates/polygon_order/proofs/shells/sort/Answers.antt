use Rattle.std.proofs.Common.{rules}
use Rattle.polygon_order.proofs.ShellOrder.{sorted_shells}
use Rattle.polygon_order.proofs.shells.sort.Goals as goal

pub returns-clause-sorted : goal.returns-clause-sorted
returns-clause-sorted c = sorted_shells c.sort_unstable_by.new.self c.sort_unstable_by.ensures.sorted (λ a r f' k. search rules)
