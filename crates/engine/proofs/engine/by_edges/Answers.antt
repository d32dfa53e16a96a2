use Rattle.results.proofs.Results.{layers_known}
use Rattle.engine.proofs.Running.{written}
use Rattle.engine.proofs.engine.by_edges.Goals as goal

pub text_by_workers-requires-clause-layers : goal.text_by_workers-requires-clause-layers
text_by_workers-requires-clause-layers g c κs l = layers_known c.args.noded.edges.items c.requires.layers

pub returns : goal.returns
returns g c =
    let now = c.args.checked.now in
    let edges = c.args.noded.edges.items in
    written now.limits.segments c.args.wanted now.plan now.a.now now.b.now edges c.in_ok-text.text c.in_ok-report.report c.in_ok-text.ensures c.in_ok-report.ensures.reports
