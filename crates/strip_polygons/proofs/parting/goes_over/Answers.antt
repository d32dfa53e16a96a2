use Rattle.strip_polygons.proofs.PartingEdges.{over_first, over_second, runs_between}
use Rattle.strip_polygons.proofs.parting.goes_over.Goals as goal

pub returns-then-strip_at-from : goal.returns-then-strip_at-from
returns-then-strip_at-from c =
    over_first c.args.cuts.now c.args.from c.args.edge c.in-Some.along (runs_between c.args.edge c.in-Some.along c.in-Some.ensures)
    c.strip_at.result c.strip_at.ensures.value c.args.past c.if-strip_at-from.true

pub returns-else-strip_at-from : goal.returns-else-strip_at-from
returns-else-strip_at-from c =
    over_second c.args.cuts.now c.args.from c.args.edge c.in-Some.along (runs_between c.args.edge c.in-Some.along c.in-Some.ensures)
    c.strip_at.result c.strip_at.ensures.value c.args.past c.strip_at-else-strip_at-from.result c.strip_at-else-strip_at-from.ensures.value
    c.if-strip_at-from.false
