use Rattle.std.proofs.Common.{◌≡◌}
use Rattle.grid.specs.Tiles.{HasTile}
use Rattle.linking.proofs.Slices.{flat_slice_all, flat_slice_pairs}
use Rattle.linking.proofs.numbers.fn.hot_in_parts.map_parts.Goals as goal

pub count_by_tile-requires : goal.count_by_tile-requires
count_by_tile-requires g c =
    let pieces = c.captures.pieces.now in
    let part = c.args.part in
    record {
      tiles = flat_slice_all (λ p. p.pixels.items) pieces (λ p. HasTile c.captures.grid.now p) part.from part.past c.requires.1 c.requires.2;
      once = flat_slice_pairs (λ p. p.pixels.items) pieces (λ p q. p ≡ q → ⊥) part.from part.past c.requires.3;
    }
