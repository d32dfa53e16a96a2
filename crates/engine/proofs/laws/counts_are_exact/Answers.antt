-- Both laws are one lemma.
use Rattle.layers.specs.Refusals.{segment_limit}
use Rattle.engine.proofs.Counting.{counts_are_exact}
use Rattle.engine.proofs.laws.counts_are_exact.Goals as goal

pub returns-clause-counts : goal.returns-clause-counts
returns-clause-counts g c = counts_are_exact _ segment_limit

pub returns-clause-within : goal.returns-clause-within
returns-clause-within g c = counts_are_exact _
