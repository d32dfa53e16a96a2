-- The law is a lemma of its own.
use Rattle.feature_links.proofs.GroupLaws.{groups_are_borders}
use Rattle.feature_links.proofs.laws.groups_are_borders.Goals as goal

pub returns : goal.returns
returns c = groups_are_borders
