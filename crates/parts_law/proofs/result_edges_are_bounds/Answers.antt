-- The law is a lemma of its own.
use Rattle.parts_law.proofs.ResultBounds.{result_edges_are_bounds}
use Rattle.parts_law.proofs.result_edges_are_bounds.Goals as goal

pub returns : goal.returns
returns c = result_edges_are_bounds
