use Rattle.std.proofs.Common.{List, subst}
use Rattle.std.specs.List.{Contains}
use Rattle.geom.specs.declared.directed.DirectedEdge.{DirectedEdge}
use Rattle.covered.specs.Sides.{directed_of}
use Rattle.covered.proofs.Sides.{are_covered_edges}
use Rattle.covered.proofs.edges.covered_edges.Goals as goal

pub returns-clause-edges : goal.returns-clause-edges
returns-clause-edges g c = λ count features h.
    let covers = c.args.covers.now in
    let list = c.in_order.result.items in
    are_covered_edges c.args.op c.args.split count features c.args.borders.now covers.sets covers.left.items covers.right.items h list c.in_order.ensures.ascending
    (subst (λ (es : List DirectedEdge). (d : DirectedEdge) → (Contains list d → Contains es d) × (Contains es d → Contains list d)) {y = directed_of c.args.op c.args.split covers.sets c.args.borders.now covers.left.items covers.right.items} c.in_ok-list.ensures c.in_order.ensures.same)
