-- The law is a lemma of its own.
use Rattle.covered.proofs.CoveredEdges.{covered_edges_are_one}
use Rattle.covered.proofs.laws.covered_edges_are_one.Goals as goal

pub returns : goal.returns
returns c = covered_edges_are_one
