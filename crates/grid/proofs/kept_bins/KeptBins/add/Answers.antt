use Rattle.std.proofs.lemmas.Result.{on_ok_weaker}
use Rattle.grid.proofs.Rows.{all_more}
use Rattle.grid.proofs.kept_bins.KeptBins.add.Goals as goal

pub returns-clause-bins : goal.returns-clause-bins
returns-clause-bins g c =
    let added = c.add.ensures in
    on_ok_weaker c.add.result (λ more. all_more c.self.inside.all c.add.new.self c.args.rect c.args.self.now c.self.view_is c.self.invariant.0 c.self.invariant.1 added.grid added.from added.past more) added.bins
