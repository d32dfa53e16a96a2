use Rattle.std.proofs.Common.{◌∙◌}
use Rattle.std.proofs.lemmas.List.{get_or_default}
use Rattle.linking.proofs.Counted.{counted_to_all, counted_to_more, counted_to_none}
use Rattle.linking.proofs.RouteLinks.{counts_size}
use Rattle.linking.proofs.numbers.count_pixels.Goals as goal

pub loop-pixel-init : goal.loop-pixel-init
loop-pixel-init g c = (counted_to_none c.args.grid.now c.args.pixels.now c.args.counts.now.counts.items, c.requires.size, c.requires.last)

pub add-requires-clause-tile : goal.add-requires-clause-tile
add-requires-clause-tile g c = c.requires.tiles c.loop-pixel.pixel-index _ c.loop-pixel-test.true

pub loop-pixel-preserved : goal.loop-pixel-preserved
loop-pixel-preserved g c =
    let pixels = c.args.pixels.now in
    let i = c.loop-pixel.pixel-index in
    let within = c.loop-pixel-test.true in
    let one = c.in_ok-add.ensures.counted in
    let inv = c.loop-pixel.invariant in (
      counted_to_more c.args.grid.now pixels c.args.counts.now.counts.items i _ within (get_or_default pixels i _ _ within) _ _ one inv.0,
      counts_size c.args.grid.now _ _ _ _ one ∙ inv.1,
      c.in_ok-add.ensures.last,
    )

pub returns-clause-counted : goal.returns-clause-counted
returns-clause-counted g c = counted_to_all c.args.grid.now c.args.pixels.now c.args.counts.now.counts.items c.loop-pixel.pixel-index c.loop-pixel-test.false _ c.loop-pixel.invariant.0
