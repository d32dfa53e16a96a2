use Rattle.std.proofs.Common.{◌∙◌, ◌+◌, Bool, Some, cond, refl, sym, ap}
use Rattle.std.specs.Prelude.{slice_range}
use Rattle.columns.specs.Layout.{points_of}
use Rattle.columns.specs.Refusals.{first_outside}
use Rattle.columns.proofs.Sound.{outside_at, told_inside, told_outside}
use Rattle.columns.proofs.surveying.first_outside.Goals as goal

pub returns-then-not-is_in_limit : goal.returns-then-not-is_in_limit
returns-then-not-is_in_limit c =
    let ps = points_of c.args.points.now in
    let n = c.loop-number.number in
    let rest = first_outside (n + 1) (slice_range ps (n + 1) c.args.past) in
    sym (ap (λ (b : Bool). cond b (Some n) rest) (told_outside c.is_in_limit.result c.at.result c.if-not-is_in_limit.true c.is_in_limit.ensures))
    ∙ sym (outside_at ps n c.args.past (n + 1) c.at.result c.loop-number-test.true c.requires refl c.at.ensures)
    ∙ c.loop-number.invariant

pub loop-number-preserved : goal.loop-number-preserved
loop-number-preserved c =
    let ps = points_of c.args.points.now in
    let n = c.loop-number.number in
    let rest = first_outside (n + 1) (slice_range ps (n + 1) c.args.past) in
    sym (ap (λ (b : Bool). cond b (Some n) rest) (told_inside c.is_in_limit.result c.at.result c.if-not-is_in_limit.false c.is_in_limit.ensures))
    ∙ sym (outside_at ps n c.args.past (n + 1) c.at.result c.loop-number-test.true c.requires refl c.at.ensures)
    ∙ c.loop-number.invariant
