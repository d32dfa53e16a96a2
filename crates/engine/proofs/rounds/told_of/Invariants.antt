use Rattle.std.proofs.Common.{◌≡◌, ℕ, map, take}
use Rattle.engine.proofs.rounds.told_of.Given as goal

abbrev pub invariant-loop-tile : goal.invariant-loop-tile
invariant-loop-tile g l = l.told.items ≡ map {B = ℕ × ℕ} (λ t. (t.hot, t.records)) (take l.tile-index l.tiles)
