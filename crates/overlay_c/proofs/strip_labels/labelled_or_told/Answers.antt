use Rattle.std.proofs.Common.{subst, sym}
use Rattle.overlay_c.specs.declared.strip_answer.OverlayStripAnswer.{OverlayStripAnswer}
use Rattle.overlay_c.specs.StripLabels.{FailsLists}
use Rattle.overlay_c.specs.StripLabels.FailsLists.{no_memory}
use Rattle.overlay_c.proofs.strip_labels.labelled_or_told.Goals as goal

pub returns-in-Err : goal.returns-in-Err
returns-in-Err c = subst (λ (w : OverlayStripAnswer). FailsLists c.args.crossing.now c.args.own.now w) (sym c.no_strip_memory.ensures) (no_memory c.in_default.ensures)
