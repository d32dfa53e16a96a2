use Rattle.std.proofs.Common.{◌^◌, refl}
use Rattle.polygonize.proofs.EdgesBelow.GapsBelow.{distance_in, ends_in_limit, gap_made, kept, kept_distance, not_below, not_over, same_within}
use Rattle.polygonize.proofs.below.gap_below.Goals as goal

pub is_over-requires-clause-edge_in : goal.is_over-requires-clause-edge_in
is_over-requires-clause-edge_in c = ends_in_limit c.args.edge.from c.args.edge.to c.in_ok-edge.edge.p c.in_ok-edge.edge.q c.in_ok-edge.ensures c.requires.edge_in

pub side-side-requires-clause-self_in : goal.side-side-requires-clause-self_in
side-side-requires-clause-self_in c = ends_in_limit c.args.edge.from c.args.edge.to c.in_ok-edge.edge.p c.in_ok-edge.edge.q c.in_ok-edge.ensures c.requires.edge_in

pub vector_to-along-requires-clause-self_in : goal.vector_to-along-requires-clause-self_in
vector_to-along-requires-clause-self_in c = (ends_in_limit c.args.edge.from c.args.edge.to c.in_ok-edge.edge.p c.in_ok-edge.edge.q c.in_ok-edge.ensures c.requires.edge_in).a_in

pub vector_to-along-requires-clause-other_in : goal.vector_to-along-requires-clause-other_in
vector_to-along-requires-clause-other_in c = (ends_in_limit c.args.edge.from c.args.edge.to c.in_ok-edge.edge.p c.in_ok-edge.edge.q c.in_ok-edge.ensures c.requires.edge_in).b_in

pub is_above-requires : goal.is_above-requires
is_above-requires c = let l = ends_in_limit c.args.edge.from c.args.edge.to c.in_ok-edge.edge.p c.in_ok-edge.edge.q c.in_ok-edge.ensures c.requires.edge_in in
    distance_in c.vector_to-along.result.dy c.in_ok-edge.edge.q.y c.in_ok-edge.edge.p.y c.vector_to-along.ensures.dy l.b_in.y_in l.a_in.y_in

pub returns-then-not-is_over-clause-gap : goal.returns-then-not-is_over-clause-gap
returns-then-not-is_over-clause-gap c = not_over c.args.edge c.args.v c.in_ok-edge.edge c.in_ok-edge.ensures (λ h. let t = c.if-not-is_over.ensures.1 h in absurd (cc))

pub returns-then-not-is_above-clause-gap : goal.returns-then-not-is_above-clause-gap
returns-then-not-is_above-clause-gap c = let l = ends_in_limit c.args.edge.from c.args.edge.to c.in_ok-edge.edge.p c.in_ok-edge.edge.q c.in_ok-edge.ensures c.requires.edge_in in
    not_below c.args.edge c.args.v c.in_ok-edge.edge _ _ c.in_ok-edge.ensures
    (kept c.side-side.result _ c.side-side.ensures.value (same_within (2 ^ 59) c.side-side.result _ c.side-side.ensures.value c.side-side.ensures.small))
    (kept_distance c.vector_to-along.result.dy c.in_ok-edge.edge.q.y c.in_ok-edge.edge.p.y c.vector_to-along.ensures.dy l.b_in.y_in l.a_in.y_in)
    (λ h. let t = c.if-not-is_above.ensures.1 h in absurd (cc))

pub returns-clause-gap : goal.returns-clause-gap
returns-clause-gap c = let l = ends_in_limit c.args.edge.from c.args.edge.to c.in_ok-edge.edge.p c.in_ok-edge.edge.q c.in_ok-edge.ensures c.requires.edge_in in
    gap_made c.args.edge c.args.v c.in_ok-edge.edge _ c.in_ok-edge.ensures c.requires.edge_in
    (kept c.side-side.result _ c.side-side.ensures.value (same_within (2 ^ 59) c.side-side.result _ c.side-side.ensures.value c.side-side.ensures.small))
    (same_within (2 ^ 59) c.side-side.result _ c.side-side.ensures.value c.side-side.ensures.small)
    (kept_distance c.vector_to-along.result.dy c.in_ok-edge.edge.q.y c.in_ok-edge.edge.p.y c.vector_to-along.ensures.dy l.b_in.y_in l.a_in.y_in)
    (kept_distance c.vector_to-along.result.dx c.in_ok-edge.edge.q.x c.in_ok-edge.edge.p.x c.vector_to-along.ensures.dx l.b_in.x_in l.a_in.x_in)
    (c.if-not-is_over.ensures.0 refl)
    (c.if-not-is_above.ensures.0 refl)
