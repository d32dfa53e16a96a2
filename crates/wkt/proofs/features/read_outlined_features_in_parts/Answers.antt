use Rattle.std.proofs.Common.{Ok}
use Rattle.wkt.specs.Features.{all_rings}
use Rattle.wkt.proofs.Apart.{features_in}
use Rattle.wkt.proofs.Bounded.{bounds_in}
use Rattle.wkt.proofs.Cuts.{stands_joined}
use Rattle.wkt.proofs.features.read_outlined_features_in_parts.Goals as goal

pub returns-in-Ok-clause-answer : goal.returns-in-Ok-clause-answer
returns-in-Ok-clause-answer g c = (all_rings c.in-Ok.features, stands_joined c.args.text.now c.in-Ok.features c.in-Ok.ensures.0, c.in-Ok.ensures.1)

pub returns-in-Ok-clause-bounds_in_limit : goal.returns-in-Ok-clause-bounds_in_limit
returns-in-Ok-clause-bounds_in_limit g c =
    bounds_in c.args.longest c.args.text.now (Ok c.in-Ok.outline) (all_rings c.in-Ok.features, stands_joined c.args.text.now c.in-Ok.features c.in-Ok.ensures.0, c.in-Ok.ensures.1)

pub returns-in-Ok-clause-in_limit : goal.returns-in-Ok-clause-in_limit
returns-in-Ok-clause-in_limit g c = features_in c.args.text.now c.in-Ok.features c.in-Ok.ensures.0
