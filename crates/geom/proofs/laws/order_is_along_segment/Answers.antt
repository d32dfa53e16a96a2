use Rattle.geom.proofs.Meaning.{order_is_along_segment}
use Rattle.geom.proofs.laws.order_is_along_segment.Goals as goal

pub returns : goal.returns
returns c = order_is_along_segment
