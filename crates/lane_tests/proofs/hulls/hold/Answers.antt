use Rattle.std.proofs.Common.{◌<◌, ap, arith, length, ◌∙◌}
use Rattle.std.specs.Int.{int_max, int_min}
use Rattle.lane_tests.proofs.RunHulls.{held_wider, is_hull}
use Rattle.lane_tests.proofs.hulls.hold.Goals as goal

pub returns-then-run-len-clause-ok : goal.returns-then-run-len-clause-ok
returns-then-run-len-clause-ok g c =
    let rect = c.args.rect in
    let within : c.args.run < length c.args.hulls.now.items = omega (arith, c.if-run-len.true, c.len.ensures) in
    held_wider c.args.run rect c.index-hull.result.now _ c.args.hulls.now.items within (is_hull c.args.hulls.now.items c.args.run c.index-hull.result.now within c.index-hull.ensures)
    (record {
      left = c.with-then-run-len.ensures.left ∙ ap (λ z. int_min z rect.hi.x) c.with.ensures.left;
      bottom = c.with-then-run-len.ensures.below ∙ ap (λ z. int_min z rect.hi.y) c.with.ensures.below;
      right = c.with-then-run-len.ensures.right ∙ ap (λ z. int_max z rect.hi.x) c.with.ensures.right;
      top = c.with-then-run-len.ensures.above ∙ ap (λ z. int_max z rect.hi.y) c.with.ensures.above;
    })
