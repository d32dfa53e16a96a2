-- The law is a lemma of its own.
use Rattle.covered.proofs.Coverage.{coverage_is_exact}
use Rattle.covered.proofs.laws.coverage_is_exact.Goals as goal

pub returns : goal.returns
returns c = coverage_is_exact
