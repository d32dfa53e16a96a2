use Rattle.results.proofs.Results.{result_along}
use Rattle.results.proofs.operation.polygons_along.Goals as goal

pub returns : goal.returns
returns g c =
    let made = c.polygons.ensures in
    result_along c.args.directed.now c.polygons.result made.polygons made.each_edge made.simple made.least
