use Rattle.std.proofs.Common.{subst, sym}
use Rattle.overlay_c.specs.declared.strip_answer.OverlayStripAnswer.{OverlayStripAnswer}
use Rattle.overlay_c.specs.Strips.{FailsScatter}
use Rattle.overlay_c.specs.Strips.FailsScatter.{no_memory, refused}
use Rattle.overlay_c.proofs.strip_scatter.scattered_or_refused.Goals as goal

pub returns-in-Err-scattered : goal.returns-in-Err-scattered
returns-in-Err-scattered c = subst (λ (w : OverlayStripAnswer). FailsScatter c.args.cuts.now c.args.layer c.args.part.now w) (sym c.no_strip_memory.ensures)
    (no_memory c.requires.layer c.requires.ascending c.in-Ok.ensures.answer.0)

pub returns-in-Err : goal.returns-in-Err
returns-in-Err c = subst (λ (w : OverlayStripAnswer). FailsScatter c.args.cuts.now c.args.layer c.args.part.now w) (sym c.refused_part.ensures) (refused c.requires.layer c.requires.ascending c.in-Err.fault c.in-Err.ensures.answer)
