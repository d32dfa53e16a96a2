use Rattle.std.proofs.Common.{◌≡◌, ℕ, ◌<◌, ◌+◌, ◌∙◌, List, [], ◌∷◌, ◌++◌, ap, get_or, length, map, refl, take}
use Rattle.std.proofs.lemmas.List.{map_more, take_all}
use Rattle.linking.specs.declared.rounded.TileNumbers.{TileNumbers}
use Rattle.engine.proofs.rounds.told_of.Goals as goal

one_pushed : {X Y : Type 0} (f : X → Y) (xs : List X) (i : ℕ) (d : X) (old new : List Y) → i < length xs → old ≡ map f (take i xs) → new ≡ old ++ f (get_or xs i d) ∷ [] → new ≡ map f (take (i + 1) xs)
one_pushed f xs i d old new h is now = rw (now, is, map_more f xs i d h) refl

pub loop-tile-preserved : goal.loop-tile-preserved
loop-tile-preserved g c = one_pushed (λ (t : TileNumbers). (t.hot, t.records)) c.args.tiles.now c.loop-tile.tile-index _ _ _ c.loop-tile-test.true c.loop-tile.invariant c.in_ok-push.ensures.items

pub returns : goal.returns
returns g c = c.loop-tile.invariant ∙ ap (map (λ (t : TileNumbers). (t.hot, t.records))) (take_all c.loop-tile.tile-index c.args.tiles.now c.loop-tile-test.false)
