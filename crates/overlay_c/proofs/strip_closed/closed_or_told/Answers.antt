use Rattle.std.proofs.Common.{subst, sym}
use Rattle.overlay_c.specs.declared.strip_answer.OverlayStripAnswer.{OverlayStripAnswer}
use Rattle.overlay_c.specs.StripClosed.{FailsClosed}
use Rattle.overlay_c.specs.StripClosed.FailsClosed.{no_memory}
use Rattle.overlay_c.proofs.strip_closed.closed_or_told.Goals as goal

pub returns-in-Err : goal.returns-in-Err
returns-in-Err c = subst (λ (w : OverlayStripAnswer). FailsClosed c.args.cuts.now c.args.first c.args.past c.args.known.now w) (sym c.no_strip_memory.ensures) (no_memory c.in_default.ensures)
