use Rattle.std.proofs.Common.{subst, sym}
use Rattle.overlay_c.specs.declared.strip_answer.OverlayStripAnswer.{OverlayStripAnswer}
use Rattle.overlay_c.specs.StripClosed.{FailsClosed}
use Rattle.overlay_c.specs.StripClosed.FailsClosed.{bad_cut, bad_edge, no_strips}
use Rattle.overlay_c.proofs.strip_closed.refused_range.Goals as goal

pub returns-then-not-are_strips : goal.returns-then-not-are_strips
returns-then-not-are_strips c = subst (λ (w : OverlayStripAnswer). FailsClosed c.args.cuts.now c.args.first c.args.past c.args.known.now w) (sym c.no_strip.ensures) (no_strips c.if-not-are_strips.ensures)

pub returns-in-Some : goal.returns-in-Some
returns-in-Some c = subst (λ (w : OverlayStripAnswer). FailsClosed c.args.cuts.now c.args.first c.args.past c.args.known.now w) (sym c.bad_item.ensures) (bad_cut c.if-not-are_strips.ensures c.in-Some.place c.in-Some.ensures)

pub returns : goal.returns
returns c = subst (λ (w : OverlayStripAnswer). FailsClosed c.args.cuts.now c.args.first c.args.past c.args.known.now w) (sym c.bad_item-2.ensures)
    (bad_edge c.if-not-are_strips.ensures c.in_default.ensures c.in_ok-place.place c.in_ok-place.ensures)
