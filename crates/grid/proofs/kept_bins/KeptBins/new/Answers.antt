use Rattle.std.proofs.Common.{[], ◌∙◌, ap, sym}
use Rattle.grid.specs.Tiles.{Tiling}
use Rattle.grid.proofs.Rows.{all_rows}
use Rattle.grid.proofs.kept_bins.KeptBins.new.Goals as goal

pub returns-clause-bins : goal.returns-clause-bins
returns-clause-bins g c =
    let all = c.in_ok-all.ensures in
    all_rows c.in_ok-all.all all.from (all.past ∙ c.rows.ensures ∙ ap (λ (g : Tiling). g.rows) (sym all.grid)) [] all.bins
