use Rattle.layers.specs.ColumnLayers.{features_in}
use Rattle.engine.proofs.CoveredFeatures.{grid_over_covers}
use Rattle.engine.proofs.faces_columns.column_borders.Goals as goal

pub borders_of_alone-requires-clause-covered : goal.borders_of_alone-requires-clause-covered
borders_of_alone-requires-clause-covered g c =
    let ready = c.requires in
    let made = c.in_ok-all.all in
    let are = c.in_ok-all.ensures in
    grid_over_covers (features_in c.args.layers.now) c.args.checked.now.plan.side c.args.checked.now.grid made.segments.items made.owners.items ready.planned.side ready.is_grid are.all.are_segments

pub returns-clause-borders : goal.returns-clause-borders
returns-clause-borders g c = c.borders_of_alone.ensures.borders (features_in c.args.layers.now) c.in_ok-all.ensures
