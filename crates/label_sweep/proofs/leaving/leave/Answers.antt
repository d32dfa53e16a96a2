use Rattle.std.proofs.Common.{◌∷◌, [], List, subst}
use Rattle.std.specs.Prelude.{◌↔◌, Contains}
use Rattle.geom.specs.declared.directed.DirectedEdge.{DirectedEdge}
use Rattle.label_sweep.proofs.LeavingEdges.{leaving_at, more_leaving}
use Rattle.label_sweep.proofs.leaving.leave.Goals as goal

pub returns : goal.returns
returns g c = λ all layers around points order before.
    let op = c.args.op in
    let v = c.args.v in
    let here = c.put_in_order.new.edges.items in
    let P : List DirectedEdge → Type 0 = λ es. (d : DirectedEdge) → Contains here d ↔ Contains es d in
    rw (c.in_ok-extend_from_slice.ensures.items, c.deref.ensures.value)
    (more_leaving op all points (v ∷ []) c.args.edges.now.items here order before
    (leaving_at op all v c.args.around.now around here c.put_in_order.ensures.ascending (subst P c.in_ok-list_leaving.ensures c.put_in_order.ensures.same)))
