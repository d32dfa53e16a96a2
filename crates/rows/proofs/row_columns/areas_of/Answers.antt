use Rattle.std.proofs.Common.{◌≡◌, ◌∙◌, ◌++◌, ◌∷◌, [], ap, get_or, rules}
use Rattle.std.proofs.lemmas.List.Elements.{All-get_or}
use Rattle.cover_law.specs.Areas.{row_area}
use Rattle.rows.specs.Made.{row_of}
use Rattle.rows.specs.declared.parts.Row.{Row}
use Rattle.rows.proofs.Behind.{next_area}
use Rattle.rows.proofs.row_columns.areas_of.Goals as goal

pub loop-row-preserved : goal.loop-row-preserved
loop-row-preserved g c =
    let rows = c.args.rows.now in
    let i = c.loop-row.row-index in
    let row = c.row-item.result in
    let area = c.in_ok-map_err.field-0 in
    let value : area ≡ row.twice_area = search rules in
    let there : row.twice_area ≡ (get_or rows i row).twice_area = ap (λ (r : Row g.row.B.Denot). r.twice_area) c.row-item.is in
    let told = All-get_or (λ (r : Row g.row.B.Denot). r.twice_area ≡ row_area (row_of r)) rows i row c.loop-row-test.true c.requires in
    let pushed : c.push.new.self.items ≡ c.loop-row.areas.items ++ area ∷ [] = search rules in
    let same : area ≡ row_area (row_of (get_or rows i row)) = value ∙ there ∙ told in
    pushed ∙ next_area rows i row area c.loop-row.areas.items c.loop-row-test.true c.loop-row.invariant same
