use Rattle.std.proofs.Common.{take}
use Rattle.linking.specs.Numbers.{ArePaired}
use Rattle.linking.proofs.numbers.paired.Given as goal

abbrev pub invariant-loop-tile : goal.invariant-loop-tile
invariant-loop-tile g l = ArePaired (take l.tile l.hot) (take l.tile l.records) l.tiles.items
