use Rattle.cover_sets_tests.proofs.Bordering.{are_borders}
use Rattle.cover_sets_tests.proofs.deciding.are_borders.Goals as goal

pub returns : goal.returns
returns c t = are_borders c.args.features.now c.args.borders.now (c.are_ascending.ensures c.if-not-are_ascending.false) (c.are_in_limit.ensures c.if-not-are_in_limit.false) (c.are_noded.ensures c.if-not-are_noded.false) (c.have_even_degrees.ensures t)
