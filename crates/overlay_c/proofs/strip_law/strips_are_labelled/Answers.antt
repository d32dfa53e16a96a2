use Rattle.overlay_c.proofs.StripsLabelled.{strips_are_labelled}
use Rattle.overlay_c.proofs.strip_law.strips_are_labelled.Goals as goal

pub returns : goal.returns
returns c = strips_are_labelled
