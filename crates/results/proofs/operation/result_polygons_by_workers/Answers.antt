use Rattle.points_law.proofs.RoundVertex.{closes}
use Rattle.results.proofs.Results.{directed_in}
use Rattle.results.proofs.Answering.{if_both}
use Rattle.results.proofs.operation.result_polygons_by_workers.Goals as goal

pub polygons_along-requires-clause-closes : goal.polygons_along-requires-clause-closes
polygons_along-requires-clause-closes g c = closes c.args.op c.args.counted.now c.requires.layers c.in_ok-directed.directed c.in_ok-directed.ensures

pub polygons_along-requires-clause-in_limit : goal.polygons_along-requires-clause-in_limit
polygons_along-requires-clause-in_limit g c = directed_in c.args.op c.args.counted.now c.in_ok-directed.directed c.requires.layers.in_limit c.in_ok-directed.ensures

pub returns : goal.returns
returns g c = if_both c.polygons_along.result _ _ _ (λ found h u. h c.args.op c.args.counted.now c.requires.layers c.in_ok-directed.ensures) c.polygons_along.ensures c.polygons_along.ensures
