-- The law is a lemma of its own.
use Rattle.strips_law.proofs.Edges.{edges_of}
use Rattle.strips_law.proofs.edges_of_strip.Goals as goal

pub returns : goal.returns
returns c = edges_of
