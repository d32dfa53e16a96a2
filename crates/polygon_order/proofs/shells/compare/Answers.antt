use Rattle.std.proofs.Common.{rules}
use Rattle.polygon_order.proofs.Coordinates.{compares_coordinates}
use Rattle.polygon_order.proofs.shells.compare.Goals as goal

pub returns-clause-points : goal.returns-clause-points
returns-clause-points c = λ ps qs e f. compares_coordinates c.args.s.now.coordinates.now c.args.t.now.coordinates.now ps qs c.cmp.result (search rules) e f
