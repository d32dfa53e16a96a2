use Rattle.std.proofs.Common.{subst, sym}
use Rattle.overlay_c.specs.declared.strip_answer.OverlayStripAnswer.{OverlayStripAnswer}
use Rattle.overlay_c.specs.Strips.{FailsEdges}
use Rattle.overlay_c.specs.Strips.FailsEdges.{no_memory}
use Rattle.overlay_c.proofs.strip_edges.merged_or_told.Goals as goal

pub returns-in-Err : goal.returns-in-Err
returns-in-Err c = subst (λ (w : OverlayStripAnswer). FailsEdges c.args.inner.now c.args.across.now w) (sym c.no_strip_memory.ensures) (no_memory c.in_default.ensures)
