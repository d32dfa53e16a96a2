use Rattle.std.proofs.lemmas.Result.{IfOk-weaker}
use Rattle.geom.specs.Rounded.{edges_of}
use Rattle.noding_test.proofs.Least.{ascends, least_of_tiles}
use Rattle.noding_test.proofs.noding.least_bad_of.Goals as goal

pub bad_of_all-requires-clause-ascending : goal.bad_of_all-requires-clause-ascending
bad_of_all-requires-clause-ascending g c = ascends c.args.counted.now c.requires.ascending

pub returns : goal.returns
returns g c = IfOk-weaker c.bad_of_all.result _ _ (λ bad h. least_of_tiles c.args.grid.now (edges_of c.args.counted.now) c.requires.covered bad h) c.bad_of_all.ensures
