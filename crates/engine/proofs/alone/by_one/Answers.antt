use Rattle.results.proofs.Results.{layers_known}
use Rattle.engine.proofs.Running.{written}
use Rattle.engine.proofs.alone.by_one.Goals as goal

pub text_of-requires : goal.text_of-requires
text_of-requires g c = layers_known c.in_ok-noded.noded.edges.items c.in_ok-noded.ensures.layers

pub returns-clause-written : goal.returns-clause-written
returns-clause-written g c =
    let now = c.args.checked.now in
    let edges = c.in_ok-noded.noded.edges.items in
    written now.limits.segments c.args.wanted now.plan now.a.now now.b.now edges c.in_ok-text.text.items c.in_ok-report.report c.in_ok-text.ensures c.in_ok-report.ensures.reports
