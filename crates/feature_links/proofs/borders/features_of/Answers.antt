use Rattle.std.proofs.Common.{◌≡◌, ℕ, ◌<◌, ◌+◌, ◌∙◌, List, [], ◌∷◌, ◌++◌, ap, get_or, length, map, take}
use Rattle.std.proofs.lemmas.List.{map_more, take_all}
use Rattle.feature_links.specs.Groups.{feature_of}
use Rattle.feature_links.proofs.borders.features_of.Goals as goal

one_pushed : {X Y : Type 0} (f : X → Y) (xs : List X) (i : ℕ) (x : X) (old new : List Y) → i < length xs → x ≡ get_or xs i x → old ≡ map f (take i xs) → new ≡ old ++ f x ∷ [] → new ≡ map f (take (i + 1) xs)
one_pushed f xs i x old new h at is now = rw (now, is, map_more f xs i x h) (ap (λ (t : _). map f (take i xs) ++ f t ∷ []) at)

pub loop-link-preserved : goal.loop-link-preserved
loop-link-preserved g c = one_pushed feature_of c.args.links.now c.loop-link.link-index c.link-item.result _ _ c.loop-link-test.true c.link-item.is c.loop-link.invariant c.in_ok-push.ensures.items

pub returns : goal.returns
returns g c = c.loop-link.invariant ∙ ap (map feature_of) (take_all c.loop-link.link-index c.args.links.now c.loop-link-test.false)
