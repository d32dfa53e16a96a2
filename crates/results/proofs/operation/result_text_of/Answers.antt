use Rattle.std.proofs.Common.{List, subst}
use Rattle.geom.specs.declared.edge.Counted.{Counted}
use Rattle.points_law.specs.Law.{AreLayers}
use Rattle.points_law.proofs.RoundVertex.{closes}
use Rattle.results.specs.Results.{IsResultText}
use Rattle.results.proofs.Results.{directed_in}
use Rattle.results.proofs.Answering.{if_both}
use Rattle.results.proofs.operation.result_text_of.Goals as goal

pub line_along-requires-clause-closes : goal.line_along-requires-clause-closes
line_along-requires-clause-closes g c =
    let layers : AreLayers c.deref.result.now = rw c.deref.ensures.value c.requires in
    closes c.args.op c.deref.result.now layers c.in_ok-directed.directed c.in_ok-directed.ensures

pub line_along-requires-clause-in_limit : goal.line_along-requires-clause-in_limit
line_along-requires-clause-in_limit g c =
    let layers : AreLayers c.deref.result.now = rw c.deref.ensures.value c.requires in
    directed_in c.args.op c.deref.result.now c.in_ok-directed.directed layers.in_limit c.in_ok-directed.ensures

pub returns : goal.returns
returns g c =
    let layers : AreLayers c.deref.result.now = rw c.deref.ensures.value c.requires in
    if_both c.line_along.result _ _ _
    (λ text h u. subst (λ (cs : List Counted). IsResultText c.args.op cs text.items) c.deref.ensures.value (h c.args.op c.deref.result.now layers c.in_ok-directed.ensures))
    c.line_along.ensures c.line_along.ensures
