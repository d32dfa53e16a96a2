use Rattle.std.proofs.Common.{arith, refl, to_z-of_z, ◌∙◌}
use Rattle.std.proofs.lemmas.Int.{ints}
use Rattle.lane_tests.proofs.Pairs.{on_ok}
use Rattle.tiling.proofs.Reaching.{reaching, right_after, right_back, right_fits, right_is}
use Rattle.tiling.proofs.index.Index.between.Goals as goal

pub invariant_of-rect : goal.invariant_of-rect
invariant_of-rect g c =
    let f = c.ranges.low in
    let m = right_is c.args.high c.min-right.result c.from.result c.ranges.high c.from.ensures c.min-right.ensures.value in
    let b = right_back c.min-right.result (right_fits c.args.low c.args.high c.min-right.result c.requires f m) in
    record { wide = rw (to_z-of_z f, b) (right_after c.args.low c.args.high c.min-right.result c.requires f m); high = omega (arith, ints) }

pub returns-clause-ok : goal.returns-clause-ok
returns-clause-ok g c =
    let f = c.ranges.low in
    let m = right_is c.args.high c.min-right.result c.from.result c.ranges.high c.from.ensures c.min-right.ensures.value in
    let b = right_back c.min-right.result (right_fits c.args.low c.args.high c.min-right.result c.requires f m) in
    on_ok c.find.result (λ found. reaching c.args.self.now c.find.ensures.small c.args.low c.args.high _ (record { left = to_z-of_z f; right = b ∙ m; bottom = refl; top = refl }) _ found) c.find.ensures.ok
