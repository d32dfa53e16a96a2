use Rattle.std.proofs.Common.{arith, subst, sym}
use Rattle.overlay_c.specs.declared.strip_answer.OverlayStripAnswer.{OverlayStripAnswer}
use Rattle.overlay_c.specs.StripLabels.{FailsGoing}
use Rattle.overlay_c.specs.StripLabels.FailsGoing.{bad_crossing, bad_cut, bad_own, no_memory, no_strip}
use Rattle.overlay_c.proofs.strip_going_on.going_or_told.Goals as goal

pub returns-then-strip-cuts : goal.returns-then-strip-cuts
returns-then-strip-cuts c = subst (λ (w : OverlayStripAnswer). FailsGoing c.args.cuts.now c.args.strip c.args.crossing.now c.args.own.now w) (sym c.no_strip.ensures) (let h = c.if-strip-cuts.true in no_strip (omega (arith, h)))

pub returns-in-Some : goal.returns-in-Some
returns-in-Some c =
    let h = c.if-strip-cuts.false in
    subst (λ (w : OverlayStripAnswer). FailsGoing c.args.cuts.now c.args.strip c.args.crossing.now c.args.own.now w) (sym c.bad_item.ensures) (bad_cut (omega (arith, h)) c.in-Some.place c.in-Some.ensures)

pub returns-in-Some-bad_crossing : goal.returns-in-Some-bad_crossing
returns-in-Some-bad_crossing c =
    let h = c.if-strip-cuts.false in
    subst (λ (w : OverlayStripAnswer). FailsGoing c.args.cuts.now c.args.strip c.args.crossing.now c.args.own.now w) (sym c.bad_item-in-Some-bad_crossing.ensures)
    (bad_crossing (omega (arith, h)) c.in_default.ensures c.in-Some-bad_crossing.place c.in-Some-bad_crossing.ensures)

pub returns-in-Some-bad_own : goal.returns-in-Some-bad_own
returns-in-Some-bad_own c =
    let h = c.if-strip-cuts.false in
    subst (λ (w : OverlayStripAnswer). FailsGoing c.args.cuts.now c.args.strip c.args.crossing.now c.args.own.now w) (sym c.bad_item-in-Some-bad_own.ensures)
    (bad_own (omega (arith, h)) c.in_default.ensures c.in_default-bad_crossing.ensures c.in-Some-bad_own.place c.in-Some-bad_own.ensures)

pub returns-in-Err : goal.returns-in-Err
returns-in-Err c =
    let h = c.if-strip-cuts.false in
    subst (λ (w : OverlayStripAnswer). FailsGoing c.args.cuts.now c.args.strip c.args.crossing.now c.args.own.now w) (sym c.no_strip_memory.ensures)
    (no_memory (record { is_strip = omega (arith, h); ascending = c.in_default.ensures; crossing_in = c.in_default-bad_crossing.ensures; own_in = c.in_default-bad_own.ensures }))
