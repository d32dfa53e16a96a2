use Rattle.std.proofs.Common.{Some}
use Rattle.noding_test.proofs.EdgeBins.{edges_have_tiles}
use Rattle.edge_test.proofs.tiles.grid_over.Goals as goal

pub returns : goal.returns
returns c = edges_have_tiles (Some c.args.bounds) c.of_cells.result c.args.edges.now c.of_cells.ensures.covers c.requires.holds
