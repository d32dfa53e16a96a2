use Rattle.geom.proofs.Doubling.{back}
use Rattle.polygonize.proofs.EdgesBelow.Short.{greatest_within, least_within, stands_over, stands_over_none}
use Rattle.polygonize.proofs.short.places_over.Goals as goal

pub first_past-from-requires-clause-column_in : goal.first_past-from-requires-clause-column_in
first_past-from-requires-clause-column_in g c =
    let a = back c.args.edge.from.x c.requires.edge_in.a_in.x_in in
    let b = back c.args.edge.to.x c.requires.edge_in.b_in.x_in in
    let m = least_within _ _ c.min.result (rw (a, b) at c.min.ensures.value) c.requires.edge_in.a_in.x_in c.requires.edge_in.b_in.x_in in
    rw (back c.min.result m) m

pub first_past_near-requires-clause-column_in : goal.first_past_near-requires-clause-column_in
first_past_near-requires-clause-column_in g c =
    let a = back c.args.edge.from.x c.requires.edge_in.a_in.x_in in
    let b = back c.args.edge.to.x c.requires.edge_in.b_in.x_in in
    let m = greatest_within _ _ c.max.result (rw (a, b) at c.max.ensures.value) c.requires.edge_in.a_in.x_in c.requires.edge_in.b_in.x_in in
    rw (back c.max.result m) m

pub returns : goal.returns
returns g c =
    let edge = c.args.edge in
    let a = back edge.from.x c.requires.edge_in.a_in.x_in in
    let b = back edge.to.x c.requires.edge_in.b_in.x_in in
    let low = rw (a, b) at c.min.ensures.value in
    let high = rw (a, b) at c.max.ensures.value in
    stands_over edge c.args.vertices.now c.first_past-from.result c.in_ok-past.past c.min.result c.max.result low high c.in_ok-past.ensures.inside
    (rw (back c.min.result (least_within _ _ c.min.result low c.requires.edge_in.a_in.x_in c.requires.edge_in.b_in.x_in)) at c.first_past-from.ensures.before)
    (rw (back c.max.result (greatest_within _ _ c.max.result high c.requires.edge_in.a_in.x_in c.requires.edge_in.b_in.x_in)) at c.in_ok-past.ensures.past)

pub returns-then-not-meets : goal.returns-then-not-meets
returns-then-not-meets g c = stands_over_none c.args.edge c.args.vertices.now c.args.all c.requires.each (λ m. let a = c.meets.ensures.1 m in let b = c.if-not-meets.true in cc)
