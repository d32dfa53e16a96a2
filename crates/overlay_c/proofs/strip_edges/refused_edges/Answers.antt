use Rattle.std.proofs.Common.{subst, sym}
use Rattle.overlay_c.specs.declared.strip_answer.OverlayStripAnswer.{OverlayStripAnswer}
use Rattle.overlay_c.specs.Strips.{FailsEdges}
use Rattle.overlay_c.specs.Strips.FailsEdges.{bad_across, bad_inner, common}
use Rattle.overlay_c.proofs.strip_edges.refused_edges.Goals as goal

pub returns-in-Some : goal.returns-in-Some
returns-in-Some c = subst (λ (w : OverlayStripAnswer). FailsEdges c.args.inner.now c.args.across.now w) (sym c.bad_item.ensures) (bad_inner c.in-Some.place c.in-Some.ensures)

pub returns-in-Some-bad_counted : goal.returns-in-Some-bad_counted
returns-in-Some-bad_counted c = subst (λ (w : OverlayStripAnswer). FailsEdges c.args.inner.now c.args.across.now w) (sym c.bad_item-in-Some-bad_counted.ensures)
    (bad_across c.in_default.ensures c.in-Some-bad_counted.place c.in-Some-bad_counted.ensures)

pub returns : goal.returns
returns c = subst (λ (w : OverlayStripAnswer). FailsEdges c.args.inner.now c.args.across.now w) (sym c.contradiction.ensures)
    (common (record { inner_in = c.in_default.ensures; across_in = c.in_default-bad_counted.ensures }) c.in_ok-place.place c.in_ok-place.ensures)
