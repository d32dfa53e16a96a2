-- The law is a lemma of its own.
use Rattle.strips_law.proofs.Edges.{not_both}
use Rattle.strips_law.proofs.no_edge_is_both.Goals as goal

pub returns : goal.returns
returns c = not_both
