use Rattle.wkt.proofs.Inside.{stands_in}
use Rattle.wkt.proofs.read.read_layer_within.Goals as goal

pub returns-in-Ok-clause-in_limit : goal.returns-in-Ok-clause-in_limit
returns-in-Ok-clause-in_limit g c = rw c.new.ensures (stands_in c.args.text.now c.in-Ok.rings.items c.in-Ok.ensures.0)
