use Rattle.std.proofs.Common.{Ok}
use Rattle.wkt.proofs.Bounded.{bounds_in}
use Rattle.wkt.proofs.Inside.{stands_in}
use Rattle.wkt.proofs.read.read_outlined.Goals as goal

pub returns-in-Ok-clause-bounds_in_limit : goal.returns-in-Ok-clause-bounds_in_limit
returns-in-Ok-clause-bounds_in_limit g c = bounds_in c.args.longest c.args.text.now (Ok c.in-Ok.outline) (c.in-Ok.rings.items, c.in-Ok.ensures.0, c.in-Ok.ensures.1)

pub returns-in-Ok-clause-in_limit : goal.returns-in-Ok-clause-in_limit
returns-in-Ok-clause-in_limit g c = rw c.new.ensures (stands_in c.args.text.now c.in-Ok.rings.items c.in-Ok.ensures.0)
