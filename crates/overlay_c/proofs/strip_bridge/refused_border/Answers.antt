use Rattle.std.proofs.Common.{subst, sym}
use Rattle.overlay_c.specs.declared.strip_answer.OverlayStripAnswer.{OverlayStripAnswer}
use Rattle.overlay_c.specs.Strips.{FailsBridge}
use Rattle.overlay_c.specs.Strips.FailsBridge.{bad_carried, bad_left, bad_right, differ, lost}
use Rattle.overlay_c.proofs.strip_bridge.refused_border.Goals as goal

pub returns-in-Some : goal.returns-in-Some
returns-in-Some c = subst (λ (w : OverlayStripAnswer). FailsBridge c.args.left.now c.args.right.now c.args.carried.now w) (sym c.bad_item.ensures) (bad_left c.in-Some.place c.in-Some.ensures)

pub returns-in-Some-bad_open : goal.returns-in-Some-bad_open
returns-in-Some-bad_open c = subst (λ (w : OverlayStripAnswer). FailsBridge c.args.left.now c.args.right.now c.args.carried.now w) (sym c.bad_item-in-Some-bad_open.ensures)
    (bad_right c.in_default.ensures c.in-Some-bad_open.place c.in-Some-bad_open.ensures)

pub returns-in-Some-bad_carried : goal.returns-in-Some-bad_carried
returns-in-Some-bad_carried c = subst (λ (w : OverlayStripAnswer). FailsBridge c.args.left.now c.args.right.now c.args.carried.now w) (sym c.bad_item-in-Some-bad_carried.ensures)
    (bad_carried c.in_default.ensures c.in_default-bad_open.ensures c.in-Some-bad_carried.place c.in-Some-bad_carried.ensures)

pub returns-in-Some-differing : goal.returns-in-Some-differing
returns-in-Some-differing c = subst (λ (w : OverlayStripAnswer). FailsBridge c.args.left.now c.args.right.now c.args.carried.now w) (sym c.contradiction.ensures)
    (differ (record { left_in = c.in_default.ensures; right_in = c.in_default-bad_open.ensures; carried_in = c.in_default-bad_carried.ensures }) c.in-Some-differing.place c.in-Some-differing.ensures)

pub returns : goal.returns
returns c = subst (λ (w : OverlayStripAnswer). FailsBridge c.args.left.now c.args.right.now c.args.carried.now w) (sym c.contradiction-2.ensures)
    (lost (record { left_in = c.in_default.ensures; right_in = c.in_default-bad_open.ensures; carried_in = c.in_default-bad_carried.ensures }) c.in_default-differing.ensures c.in_ok-place.place c.in_ok-place.ensures)
