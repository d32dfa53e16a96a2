use Rattle.chain_gather.proofs.Near.{near_by_bin}
use Rattle.chain_gather_tests.proofs.gathering.piece_in.Goals as goal

pub piece-requires-clause-candidates : goal.piece-requires-clause-candidates
piece-requires-clause-candidates g c = (near_by_bin c.args.grid.now c.args.segments.now c.args.bins.now c.args.tile c.bin.new.out.items c.deref.result.now c.requires.bins c.in_ok-bin.ensures.ok c.deref.ensures.value).0
