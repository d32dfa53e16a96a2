use Rattle.strip_polygons.proofs.PartingEdges.{begins_told, runs_between}
use Rattle.strip_polygons.proofs.parting.begins_from.Goals as goal

pub returns-in-Some : goal.returns-in-Some
returns-in-Some c = begins_told c.args.cuts.now c.args.from c.args.edge c.in-Some.along (runs_between c.args.edge c.in-Some.along c.in-Some.ensures)
    c.strip_at.result c.strip_at.ensures.value
