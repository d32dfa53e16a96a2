use Rattle.engine.proofs.ColumnsRunning.{columns_made}
use Rattle.engine.proofs.columns_output.output_of.Goals as goal

pub returns-clause-made : goal.returns-clause-made
returns-clause-made g c = λ op a b check rounded few result.
    let noded = c.args.noded.now in
    let columns = c.in_ok-columns.columns in
    let told = c.in_ok-report.ensures in
    columns_made op a b c.args.checked.now noded.edges.items noded.tiles.items noded.remade c.args.polygons.now (record { columns = columns; report = c.in_ok-report.report })
    c.in_ok-columns.ensures.columns told.segments_a told.segments_b told.edges told.tiles told.remade check rounded few result
