use Rattle.std.proofs.Common.{subst, sym}
use Rattle.overlay_c.specs.declared.strip_answer.OverlayStripAnswer.{OverlayStripAnswer}
use Rattle.overlay_c.specs.StripLabels.{FailsLists}
use Rattle.overlay_c.specs.StripLabels.FailsLists.{bad_crossing, bad_own, late}
use Rattle.overlay_c.proofs.strip_labels.refused_labels.Goals as goal

pub returns-in-Some : goal.returns-in-Some
returns-in-Some c = subst (λ (w : OverlayStripAnswer). FailsLists c.args.crossing.now c.args.own.now w) (sym c.bad_item.ensures) (bad_crossing c.in-Some.place c.in-Some.ensures)

pub returns-in-Some-bad_limited : goal.returns-in-Some-bad_limited
returns-in-Some-bad_limited c = subst (λ (w : OverlayStripAnswer). FailsLists c.args.crossing.now c.args.own.now w) (sym c.bad_item-in-Some-bad_limited.ensures)
    (bad_own c.in_default.ensures c.in-Some-bad_limited.place c.in-Some-bad_limited.ensures)

pub returns : goal.returns
returns c = subst (λ (w : OverlayStripAnswer). FailsLists c.args.crossing.now c.args.own.now w) (sym c.contradiction.ensures)
    (late (record { crossing_in = c.in_default.ensures; own_in = c.in_default-bad_limited.ensures }) c.in_ok-place.place c.in_ok-place.ensures)
