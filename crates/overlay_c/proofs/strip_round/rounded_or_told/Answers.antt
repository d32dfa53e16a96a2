use Rattle.std.proofs.Common.{arith, subst, sym}
use Rattle.overlay_c.specs.declared.strip_answer.OverlayStripAnswer.{OverlayStripAnswer}
use Rattle.overlay_c.specs.Strips.{FailsRound}
use Rattle.overlay_c.specs.Strips.FailsRound.{bad_cut, bad_line, no_memory, no_strip}
use Rattle.overlay_c.proofs.strip_round.rounded_or_told.Goals as goal

pub returns-then-strip-cuts : goal.returns-then-strip-cuts
returns-then-strip-cuts c = subst (λ (w : OverlayStripAnswer). FailsRound c.args.cuts.now c.args.strip c.args.lines.now w) (sym c.no_strip.ensures) (let h = c.if-strip-cuts.true in no_strip (omega (arith, h)))

pub returns-in-Some : goal.returns-in-Some
returns-in-Some c =
    let h = c.if-strip-cuts.false in
    subst (λ (w : OverlayStripAnswer). FailsRound c.args.cuts.now c.args.strip c.args.lines.now w) (sym c.bad_item.ensures) (bad_cut (omega (arith, h)) c.in-Some.place c.in-Some.ensures)

pub returns-in-Some-bad_line : goal.returns-in-Some-bad_line
returns-in-Some-bad_line c =
    let h = c.if-strip-cuts.false in
    subst (λ (w : OverlayStripAnswer). FailsRound c.args.cuts.now c.args.strip c.args.lines.now w) (sym c.bad_item-in-Some-bad_line.ensures)
    (bad_line (omega (arith, h)) c.in_default.ensures c.in-Some-bad_line.place c.in-Some-bad_line.ensures)

pub returns-in-Err : goal.returns-in-Err
returns-in-Err c =
    let h = c.if-strip-cuts.false in
    subst (λ (w : OverlayStripAnswer). FailsRound c.args.cuts.now c.args.strip c.args.lines.now w) (sym c.no_strip_memory.ensures)
    (no_memory (record { is_strip = omega (arith, h); ascending = c.in_default.ensures; in_place = c.in_default-bad_line.ensures }))
