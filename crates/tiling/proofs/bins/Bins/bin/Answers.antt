use Rattle.lane_tests.proofs.Pairs.{on_ok}
use Rattle.tiling.proofs.Indexing.{bin_from}
use Rattle.tiling.proofs.bins.Bins.bin.Goals as goal

pub returns-clause-ok : goal.returns-clause-ok
returns-clause-ok g c = on_ok c.find.result (λ found. bin_from c.self.inside.grid c.self.inside.index c.args.self.now c.self.view_is c.rect-rect.result c.args.number c.rect-rect.ensures.exact _ found) c.find.ensures.ok
