use Rattle.std.proofs.Common.{List, subst}
use Rattle.std.specs.Prelude.{Contains, ◌↔◌}
use Rattle.rows.specs.declared.edges.RowEdge.{RowEdge}
use Rattle.rows.proofs.Sides.{edges_of_rows}
use Rattle.rows.proofs.edges.edges_in_order.Goals as goal

pub returns-clause-edges : goal.returns-clause-edges
returns-clause-edges g c count features sets h =
    let list = c.in_order.result.items in
    edges_of_rows count features c.args.borders.now sets c.args.left.now c.args.right.now h list c.in_order.ensures.ascending
    (subst (λ (xs : List RowEdge). (e : RowEdge) → Contains list e ↔ Contains xs e) c.in_ok-list.ensures c.in_order.ensures.same)
