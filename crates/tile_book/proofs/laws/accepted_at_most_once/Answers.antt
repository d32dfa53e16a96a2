use Rattle.tile_book.proofs.Accepted.{at_most_once}
use Rattle.tile_book.proofs.laws.accepted_at_most_once.Goals as goal

pub returns : goal.returns
returns c = at_most_once
