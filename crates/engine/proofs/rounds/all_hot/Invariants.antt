use Rattle.std.proofs.Common.{◌≡◌, ◌*◌, ◌≤◌, take}
use Rattle.std.specs.Prelude.{sum_by}
use Rattle.engine.proofs.rounds.all_hot.Given as goal

abbrev pub invariant-loop-tile : goal.invariant-loop-tile
invariant-loop-tile l = record {
  sum_is : l.sum ≡ sum_by (λ t. t.hot) (take l.tile-index l.tiles);
  small : l.sum ≤ 4294967295 * l.tile-index;
}
