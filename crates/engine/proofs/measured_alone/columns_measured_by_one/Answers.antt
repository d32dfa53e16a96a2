use Rattle.std.proofs.Common.{List, arith, subst, sym, ℕ}
use Rattle.geom.specs.Canonical.{Shape}
use Rattle.results.specs.Results.{IsResult}
use Rattle.engine.specs.Rounds.{IsRemade}
use Rattle.engine.proofs.Measuring.{columns_measured, known, slice_layers}
use Rattle.engine.proofs.measured_alone.columns_measured_by_one.Goals as goal

pub layer_labels-requires : goal.layer_labels-requires
layer_labels-requires g c = slice_layers c.in_ok-noded.noded.edges.items c.deref.result.now c.in_ok-noded.ensures.layers c.deref.ensures.value

pub measures_of-requires-clause-layers : goal.measures_of-requires-clause-layers
measures_of-requires-clause-layers g c = slice_layers c.in_ok-noded.noded.edges.items c.deref-2.result.now c.in_ok-noded.ensures.layers c.deref-2.ensures.value

pub measures_of-requires-clause-in_limit : goal.measures_of-requires-clause-in_limit
measures_of-requires-clause-in_limit g c = (known c.args.op c.in_ok-noded.noded.edges.items c.deref.result.now c.in_ok-directed.directed c.in_ok-noded.ensures.layers c.deref.ensures.value c.in_ok-directed.ensures).in_limit

pub polygons_along-requires-clause-closes : goal.polygons_along-requires-clause-closes
polygons_along-requires-clause-closes g c = (known c.args.op c.in_ok-noded.noded.edges.items c.deref.result.now c.in_ok-directed.directed c.in_ok-noded.ensures.layers c.deref.ensures.value c.in_ok-directed.ensures).closes

pub polygons_along-requires-clause-in_limit : goal.polygons_along-requires-clause-in_limit
polygons_along-requires-clause-in_limit g c = (known c.args.op c.in_ok-noded.noded.edges.items c.deref.result.now c.in_ok-directed.directed c.in_ok-noded.ensures.layers c.deref.ensures.value c.in_ok-directed.ensures).in_limit

pub output_of-requires : goal.output_of-requires
output_of-requires g c =
    let e = c.in_ok-noded.ensures.rounded.tiles_are.one_each in
    let f = c.requires.ready.ready.few_tiles in
    omega (arith, e, f)

pub returns-clause-measured : goal.returns-clause-measured
returns-clause-measured g c =
    let now = c.args.checked.now in
    let edges = c.in_ok-noded.noded.edges.items in
    let directed = c.in_ok-directed.directed in
    let k = known c.args.op edges c.deref.result.now directed c.in_ok-noded.ensures.layers c.deref.ensures.value c.in_ok-directed.ensures in
    let result = subst (λ (ps : List Shape). IsResult c.args.op edges ps) (sym c.deref-3.ensures.value) (c.in_ok-polygons.ensures c.args.op edges k.layers k.bound) in
    let made = c.in_ok-answer.ensures.made c.args.op c.args.a.now c.args.b.now c.requires c.in_ok-noded.ensures.rounded (subst (λ (n : ℕ). IsRemade n) (sym c.in_ok-noded.ensures.none_remade) (omega arith)) result in
    columns_measured now.limits.segments c.args.op now.plan c.args.a.now c.args.b.now edges c.deref-2.result.now directed c.deref-3.result.now c.in_ok-measures.measures
    k c.deref-2.ensures.value c.in_ok-measures.ensures.layers c.in_ok-measures.ensures.area c.in_ok-answer.answer made
