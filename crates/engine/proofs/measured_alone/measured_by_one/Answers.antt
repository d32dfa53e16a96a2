use Rattle.engine.proofs.Measuring.{known, measured_within, slice_layers}
use Rattle.engine.proofs.measured_alone.measured_by_one.Goals as goal

pub layer_labels-requires : goal.layer_labels-requires
layer_labels-requires g c = slice_layers c.in_ok-noded.noded.edges.items c.deref.result.now c.in_ok-noded.ensures.layers c.deref.ensures.value

pub measures_of-requires-clause-layers : goal.measures_of-requires-clause-layers
measures_of-requires-clause-layers g c = slice_layers c.in_ok-noded.noded.edges.items c.deref-2.result.now c.in_ok-noded.ensures.layers c.deref-2.ensures.value

pub measures_of-requires-clause-in_limit : goal.measures_of-requires-clause-in_limit
measures_of-requires-clause-in_limit g c = (known c.args.op c.in_ok-noded.noded.edges.items c.deref.result.now c.in_ok-directed.directed c.in_ok-noded.ensures.layers c.deref.ensures.value c.in_ok-directed.ensures).in_limit

pub line_along-requires-clause-closes : goal.line_along-requires-clause-closes
line_along-requires-clause-closes g c = (known c.args.op c.in_ok-noded.noded.edges.items c.deref.result.now c.in_ok-directed.directed c.in_ok-noded.ensures.layers c.deref.ensures.value c.in_ok-directed.ensures).closes

pub line_along-requires-clause-in_limit : goal.line_along-requires-clause-in_limit
line_along-requires-clause-in_limit g c = (known c.args.op c.in_ok-noded.noded.edges.items c.deref.result.now c.in_ok-directed.directed c.in_ok-noded.ensures.layers c.deref.ensures.value c.in_ok-directed.ensures).in_limit

pub returns-clause-measured : goal.returns-clause-measured
returns-clause-measured g c =
    let now = c.args.checked.now in
    let edges = c.in_ok-noded.noded.edges.items in
    let directed = c.in_ok-directed.directed in
    measured_within now.limits.segments c.args.op now.plan now.a.now now.b.now edges c.deref-2.result.now directed c.in_ok-text.text.items c.in_ok-report.report c.in_ok-measures.measures
    (known c.args.op edges c.deref.result.now directed c.in_ok-noded.ensures.layers c.deref.ensures.value c.in_ok-directed.ensures)
    c.in_ok-text.ensures c.in_ok-report.ensures.reports c.deref-2.ensures.value c.in_ok-measures.ensures.layers c.in_ok-measures.ensures.area
