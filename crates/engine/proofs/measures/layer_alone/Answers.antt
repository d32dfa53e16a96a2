use Rattle.std.proofs.Common.{◌≡◌, ◌∙◌, ◌+◌, ◌<◌, ◌++◌, ◌∷◌, [], ℕ, List, ap, get_or, length, map, refl, take}
use Rattle.std.proofs.lemmas.List.{map_more, take_all}
use Rattle.geom.specs.declared.edge.Counted.{Counted}
use Rattle.engine.specs.Measures.{only}
use Rattle.engine.proofs.measures.layer_alone.Goals as goal

one_pushed : {X Y : Type 0} (f : X → Y) (xs : List X) (i : ℕ) (d : X) (old new : List Y) → i < length xs → old ≡ map f (take i xs) → new ≡ old ++ f (get_or xs i d) ∷ [] → new ≡ map f (take (i + 1) xs)
one_pushed f xs i d old new h is now = rw (now, is, map_more f xs i d h) refl

pub loop-one-preserved : goal.loop-one-preserved
loop-one-preserved g c = one_pushed (only c.args.layer) c.args.counted.now c.loop-one.one-index _ _ _ c.loop-one-test.true c.loop-one.invariant (c.in_ok-push.ensures.items ∙ ap (λ (x : Counted). c.loop-one.edges.items ++ x ∷ []) (c.only.ensures ∙ ap (only c.args.layer) c.one-item.is))

pub returns : goal.returns
returns g c = c.loop-one.invariant ∙ ap (map (only c.args.layer)) (take_all c.loop-one.one-index c.args.counted.now c.loop-one-test.false)
