use Rattle.std.proofs.Common.{flat_map, take}
use Rattle.std.specs.Prelude.{IfSome}
use Rattle.linking.specs.Numbers.{AreTileCounts, HasOwned}
use Rattle.linking.proofs.numbers.count_by_tile.Given as goal

abbrev pub invariant-loop-piece : goal.invariant-loop-piece
invariant-loop-piece g l = AreTileCounts l.grid (λ p. p) (λ p. 1) (flat_map (λ p. p.pixels.items) (take l.piece-index l.pieces)) l.counts.counts.items × IfSome l.counts.last (HasOwned l.grid)
