use Rattle.wkt.proofs.Apart.{features_in}
use Rattle.wkt.proofs.features.read_features_within.Goals as goal

pub returns-in-Ok-clause-in_limit : goal.returns-in-Ok-clause-in_limit
returns-in-Ok-clause-in_limit g c = features_in c.args.text.now c.in-Ok.features c.in-Ok.ensures.0
