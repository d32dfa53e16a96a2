use Rattle.std.proofs.Common.{arith}
use Rattle.grid.specs.Bins.{lists_of}
use Rattle.grid.proofs.Giving.{row_more, row_none, rows_all}
use Rattle.grid.proofs.row_bins.add_rows.Goals as goal

pub loop-row-init : goal.loop-row-init
loop-row-init g c = row_none c.args.grid.now.columns c.args.columns c.args.rows c.args.number (lists_of c.args.bins.now)

pub loop-row-preserved : goal.loop-row-preserved
loop-row-preserved g c =
    row_more c.args.grid.now.columns c.args.columns c.args.rows c.loop-row.row c.tile_at-first.result c.tile_at-last.result c.requires.columns.1 c.tile_at-first.ensures.value c.tile_at-last.ensures.value (omega arith) (omega arith)
    c.args.number (lists_of c.args.bins.now) (lists_of c.loop-row.bins) (lists_of c.add_row.new.bins) c.loop-row.invariant c.in_ok-add_row.ensures.given

pub add_row-requires-clause-order : goal.add_row-requires-clause-order
add_row-requires-clause-order g c =
    let first = c.tile_at-first.ensures.value in
    let last = c.tile_at-last.ensures.value in
    let order = c.requires.columns.0 in
    omega (arith, first, last, order)

pub returns : goal.returns
returns g c = record { given = rows_all c.args.grid.now.columns c.args.columns c.args.rows c.loop-row.row c.args.number (lists_of c.args.bins.now) (lists_of c.loop-row.bins) (omega arith) c.loop-row.invariant }
