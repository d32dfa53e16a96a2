use Rattle.std.proofs.Common.{◌≡◌, ℕ, ◌<◌, ◌+◌, ◌∙◌, List, [], ◌∷◌, ◌++◌, ap, get_or, length, map, refl, take}
use Rattle.std.proofs.lemmas.List.{map_more, take_all}
use Rattle.layers.specs.declared.feature_segments.LayerSize.{LayerSize}
use Rattle.engine.proofs.face_text.feature_counts.Goals as goal

one_pushed : {X Y : Type 0} (f : X → Y) (xs : List X) (i : ℕ) (d : X) (old new : List Y) → i < length xs → old ≡ map f (take i xs) → new ≡ old ++ f (get_or xs i d) ∷ [] → new ≡ map f (take (i + 1) xs)
one_pushed f xs i d old new h is now = rw (now, is, map_more f xs i d h) refl

pub loop-size-preserved : goal.loop-size-preserved
loop-size-preserved g c = one_pushed (λ (s : LayerSize). s.features) c.args.sizes.now c.loop-size.size-index _ _ _ c.loop-size-test.true c.loop-size.invariant c.in_ok-push.ensures.items

pub returns : goal.returns
returns g c = c.loop-size.invariant ∙ ap (map (λ (s : LayerSize). s.features)) (take_all c.loop-size.size-index c.args.sizes.now c.loop-size-test.false)
