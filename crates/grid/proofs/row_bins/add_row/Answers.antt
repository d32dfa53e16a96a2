use Rattle.std.proofs.Common.{◌<◌, ◌≤◌, arith, set}
use Rattle.grid.specs.Bins.{lists_of}
use Rattle.grid.proofs.Giving.{given_one, given_same, tile_more}
use Rattle.grid.proofs.row_bins.add_row.Goals as goal

pub loop-tile-preserved : goal.loop-tile-preserved
loop-tile-preserved g c =
    let bins = c.loop-tile.bins in
    let tile = c.loop-tile.tile in
    tile_more c.args.from tile c.args.number (lists_of c.args.bins.now) (lists_of bins) (lists_of (set bins tile c.push.new.self)) (omega arith) c.loop-tile.invariant
    (given_one c.args.number tile bins c.index-bins-tile.result c.push.new.self (omega arith) c.in_ok-push.ensures.items)

pub returns : goal.returns
returns g c = record {
  given = given_same (λ k. (c.args.from ≤ k) × (k < c.loop-tile.tile)) (λ k. (c.args.from ≤ k) × (k < c.args.to)) c.args.number (lists_of c.args.bins.now) (lists_of c.loop-tile.bins)
      (λ k _. (λ (l, m). (l, omega arith), λ (l, m). (l, omega arith))) c.loop-tile.invariant;
}
