-- The law is a lemma of its own.
use Rattle.strip_map_law.proofs.Whole.{whole_is_run}
use Rattle.strip_map_law.proofs.whole_is_run.Goals as goal

pub returns : goal.returns
returns c = whole_is_run
