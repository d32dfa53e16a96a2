use Rattle.grid.proofs.Rows.{all_rows}
use Rattle.grid.proofs.kept_bins.KeptBins.of_rows.Goals as goal

pub returns-clause-bins : goal.returns-clause-bins
returns-clause-bins g c = all_rows c.args.all c.requires.from c.requires.past
