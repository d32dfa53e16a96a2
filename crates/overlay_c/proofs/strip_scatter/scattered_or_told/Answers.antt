use Rattle.std.proofs.Common.{arith, subst, sym}
use Rattle.overlay_c.specs.declared.strip_answer.OverlayStripAnswer.{OverlayStripAnswer}
use Rattle.overlay_c.specs.Strips.{FailsScatter}
use Rattle.overlay_c.specs.Strips.FailsScatter.{bad_cut, no_layer}
use Rattle.overlay_c.proofs.strip_scatter.scattered_or_told.Goals as goal

pub returns-then-layer-gt1 : goal.returns-then-layer-gt1
returns-then-layer-gt1 c = subst (λ (w : OverlayStripAnswer). FailsScatter c.args.cuts.now c.args.layer c.args.part.now w) (sym c.no_strip.ensures) (let h = c.if-layer-gt1.true in no_layer (omega (arith, h)))

pub returns-in-Some : goal.returns-in-Some
returns-in-Some c =
    let h = c.if-layer-gt1.false in
    subst (λ (w : OverlayStripAnswer). FailsScatter c.args.cuts.now c.args.layer c.args.part.now w) (sym c.bad_item.ensures) (bad_cut (omega (arith, h)) c.in-Some.place c.in-Some.ensures)
