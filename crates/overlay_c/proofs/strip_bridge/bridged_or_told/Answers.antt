use Rattle.std.proofs.Common.{subst, sym}
use Rattle.overlay_c.specs.declared.strip_answer.OverlayStripAnswer.{OverlayStripAnswer}
use Rattle.overlay_c.specs.Strips.{FailsBridge}
use Rattle.overlay_c.specs.Strips.FailsBridge.{no_memory}
use Rattle.overlay_c.proofs.strip_bridge.bridged_or_told.Goals as goal

pub returns-in-Err : goal.returns-in-Err
returns-in-Err c = subst (λ (w : OverlayStripAnswer). FailsBridge c.args.left.now c.args.right.now c.args.carried.now w) (sym c.no_strip_memory.ensures) (no_memory c.in_default.ensures)
