use Rattle.engine.proofs.Measuring.{known, measured_within, slice_layers}
use Rattle.engine.proofs.measured_run.measured_by_edges.Goals as goal

pub layer_labels_in_parts-requires-after_bounds : goal.layer_labels_in_parts-requires-after_bounds
layer_labels_in_parts-requires-after_bounds g c κs within = slice_layers c.args.noded.now.edges.items c.deref.result.now c.requires.layers c.deref.ensures.value

pub measures_by_workers-requires-clause-layers : goal.measures_by_workers-requires-clause-layers
measures_by_workers-requires-clause-layers g c κs within = slice_layers c.args.noded.now.edges.items c.deref-2.result.now c.requires.layers c.deref-2.ensures.value

pub measures_by_workers-requires-clause-in_limit : goal.measures_by_workers-requires-clause-in_limit
measures_by_workers-requires-clause-in_limit g c κs within = (known c.args.op c.args.noded.now.edges.items c.deref.result.now c.in_ok-directed.directed c.requires.layers c.deref.ensures.value c.in_ok-directed.ensures).in_limit

pub line_by_workers-requires-clause-closes : goal.line_by_workers-requires-clause-closes
line_by_workers-requires-clause-closes g c κs within = (known c.args.op c.args.noded.now.edges.items c.deref.result.now c.in_ok-directed.directed c.requires.layers c.deref.ensures.value c.in_ok-directed.ensures).closes

pub line_by_workers-requires-clause-in_limit : goal.line_by_workers-requires-clause-in_limit
line_by_workers-requires-clause-in_limit g c κs within = (known c.args.op c.args.noded.now.edges.items c.deref.result.now c.in_ok-directed.directed c.requires.layers c.deref.ensures.value c.in_ok-directed.ensures).in_limit

pub returns : goal.returns
returns g c =
    let now = c.args.checked.now in
    let edges = c.args.noded.now.edges.items in
    let directed = c.in_ok-directed.directed in
    measured_within now.limits.segments c.args.op now.plan now.a.now now.b.now edges c.deref-2.result.now directed c.in_ok-text.text c.in_ok-report.report c.in_ok-measures.measures
    (known c.args.op edges c.deref.result.now directed c.requires.layers c.deref.ensures.value c.in_ok-directed.ensures)
    c.in_ok-text.ensures c.in_ok-report.ensures.reports c.deref-2.ensures.value c.in_ok-measures.ensures.layers c.in_ok-measures.ensures.area
