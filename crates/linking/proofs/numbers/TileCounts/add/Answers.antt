use Rattle.std.proofs.Common.{◌<◌, arith, length, refl, ap}
use Rattle.std.proofs.lemmas.Option.{slice_get_read}
use Rattle.std.specs.Prelude.{slice_set}
use Rattle.linking.proofs.Gathering.{owner_below}
use Rattle.linking.proofs.numbers.TileCounts.add.Goals as goal

pub returns-clause-counted : goal.returns-clause-counted
returns-clause-counted g c =
    let tile = c.owner_of-owned.result.tile in
    let counts = c.args.self.now.counts.items in
    let owner = c.owner_of-owned.ensures.owner in
    let below = owner_below c.args.grid.now tile c.args.point owner in
    let size = c.requires.size in
    let within : tile < length counts = omega (arith, below, size) in
    record {
      tile = tile;
      owner = owner;
      count = c.index.result.now;
      is_at = slice_get_read counts (length counts) tile c.index.result.now refl within c.index.ensures;
      new_is = ap (slice_set counts tile) c.in-Some.ensures.1;
    }
