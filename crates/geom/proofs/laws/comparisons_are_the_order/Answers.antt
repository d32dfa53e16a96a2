use Rattle.geom.proofs.Orders.{edge_ranks}
use Rattle.geom.proofs.laws.comparisons_are_the_order.Goals as goal

pub returns-clause-edges : goal.returns-clause-edges
returns-clause-edges c = edge_ranks
