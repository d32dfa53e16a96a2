use Rattle.std.proofs.Common.{◌≡◌, ◌⊎◌, Option, subst}
use Rattle.std.specs.Prelude.{MatchOption}
use Rattle.geom.specs.declared.edge.Edge.{Edge}
use Rattle.geom.proofs.Doubling.{back}
use Rattle.polygonize.proofs.EdgesBelow.Columns.{left_border}
use Rattle.polygonize.proofs.EdgesBelow.GapsBelow.{ends_in_limit}
use Rattle.polygonize.proofs.EdgesBelow.Ladders.{border_is, in_order}
use Rattle.polygonize.proofs.ladder.are_in_order.Goals as goal

pub is_under-requires-clause-e_in : goal.is_under-requires-clause-e_in
is_under-requires-clause-e_in c =
    let P : Option Edge → Type 0 = λ t. MatchOption t (c.args.below.from ≡ c.args.below.to) (λ edge. ((edge.p ≡ c.args.below.from) × (edge.q ≡ c.args.below.to)) ⊎ ((edge.p ≡ c.args.below.to) × (edge.q ≡ c.args.below.from))) in
    let ends = subst P c.in-Some-Some.is-0 c.between.ensures in
    ends_in_limit c.args.below.from c.args.below.to c.in-Some-Some.e.p c.in-Some-Some.e.q ends c.requires.below_in

pub is_under-requires-clause-f_in : goal.is_under-requires-clause-f_in
is_under-requires-clause-f_in c = ends_in_limit c.args.above.from c.args.above.to c.in-Some-Some.f.p c.in-Some-Some.f.q c.in-Some-Some.ensures c.requires.above_in

pub is_under-requires-then-is_under-clause-e_in : goal.is_under-requires-then-is_under-clause-e_in
is_under-requires-then-is_under-clause-e_in c =
    let P : Option Edge → Type 0 = λ t. MatchOption t (c.args.below.from ≡ c.args.below.to) (λ edge. ((edge.p ≡ c.args.below.from) × (edge.q ≡ c.args.below.to)) ⊎ ((edge.p ≡ c.args.below.to) × (edge.q ≡ c.args.below.from))) in
    let ends = subst P c.in-Some-Some.is-0 c.between.ensures in
    ends_in_limit c.args.below.from c.args.below.to c.in-Some-Some.e.p c.in-Some-Some.e.q ends c.requires.below_in

pub is_under-requires-then-is_under-clause-f_in : goal.is_under-requires-then-is_under-clause-f_in
is_under-requires-then-is_under-clause-f_in c = ends_in_limit c.args.above.from c.args.above.to c.in-Some-Some.f.p c.in-Some-Some.f.q c.in-Some-Some.ensures c.requires.above_in

pub returns-then-is_under : goal.returns-then-is_under
returns-then-is_under c = λ t.
    let P : Option Edge → Type 0 = λ t. MatchOption t (c.args.below.from ≡ c.args.below.to) (λ edge. ((edge.p ≡ c.args.below.from) × (edge.q ≡ c.args.below.to)) ⊎ ((edge.p ≡ c.args.below.to) × (edge.q ≡ c.args.below.from))) in
    let ends = subst P c.in-Some-Some.is-0 c.between.ensures in
    in_order c.args.below c.args.above c.args.columns c.in-Some-Some.e c.in-Some-Some.f ends c.in-Some-Some.ensures _ _ (border_is c.args.columns.low c.requires.low_in (left_border c.args.below c.args.columns c.requires.below_in c.requires.low_in c.requires.spans)) (back c.args.columns.high c.requires.high_in)
    (c.is_under.ensures.0 c.if-is_under.true) (c.is_under-then-is_under.ensures.0 t)
