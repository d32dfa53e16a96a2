use Rattle.chain_gather.proofs.Adding.{gathered_none}
use Rattle.chain_gather.proofs.Near.{near_by_bin}
use Rattle.chain_gather.proofs.tiles.all_tiles.Goals as goal

pub loop-tile-init : goal.loop-tile-init
loop-tile-init g c = rw (c.new.ensures.items, c.new-2.ensures.items) (gathered_none c.args.grid.now c.args.segments.now c.args.book.now.held)

pub add_tile-requires-clause-candidates : goal.add_tile-requires-clause-candidates
add_tile-requires-clause-candidates g c = (near_by_bin c.args.grid.now c.args.segments.now c.args.bins.now c.loop-tile.tile c.bin.new.out.items c.deref.result.now c.requires.bins c.in_ok-bin.ensures.ok c.deref.ensures.value).0

pub add_tile-requires-clause-near : goal.add_tile-requires-clause-near
add_tile-requires-clause-near g c = (near_by_bin c.args.grid.now c.args.segments.now c.args.bins.now c.loop-tile.tile c.bin.new.out.items c.deref.result.now c.requires.bins c.in_ok-bin.ensures.ok c.deref.ensures.value).1
