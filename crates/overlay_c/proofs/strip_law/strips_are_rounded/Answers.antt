use Rattle.overlay_c.proofs.StripChain.{strips_told}
use Rattle.overlay_c.proofs.strip_law.strips_are_rounded.Goals as goal

pub returns : goal.returns
returns c = strips_told
