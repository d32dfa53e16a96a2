use Rattle.tile_book.proofs.Accepted.{all_once}
use Rattle.tile_book.proofs.laws.all_posted_all_held.Goals as goal

pub returns : goal.returns
returns c = all_once
