-- The law is a lemma of its own.
use Rattle.covered.proofs.CoveredEdges.{changing_have_same_edges}
use Rattle.covered.proofs.laws.changing_have_same_edges.Goals as goal

pub returns : goal.returns
returns c = changing_have_same_edges
