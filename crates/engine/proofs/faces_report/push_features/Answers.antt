use Rattle.std.proofs.Common.{◌≡◌, ℕ, ◌<◌, ◌+◌, ◌∙◌, List, [], ◌∷◌, ◌++◌, ap, append_assoc, codes, get_or, length, sym, take}
use Rattle.std.specs.List.{flat_map}
use Rattle.std.specs.Fmt.{decimal}
use Rattle.std.proofs.lemmas.List.{flat_map_more, take_all, take_more}
use Rattle.layers.specs.declared.feature_segments.LayerSize.{LayerSize}
use Rattle.engine.proofs.faces_report.push_features.Goals as goal

one_more : (layers : List LayerSize) (i : ℕ) (d : LayerSize) (front words old comma new : List ℕ) → i < length layers → old ≡ front ++ (words ++ flat_map (λ (z : LayerSize). 32 ∷ decimal z.features) (take i layers))
    → comma ≡ old ++ 32 ∷ [] → new ≡ comma ++ decimal (get_or layers i d).features → new ≡ front ++ (words ++ flat_map (λ (z : LayerSize). 32 ∷ decimal z.features) (take (i + 1) layers))
one_more layers i d front words old comma new h is space now =
    let line : LayerSize → List ℕ = λ z. 32 ∷ decimal z.features in
    let e : flat_map line (take (i + 1) layers) ≡ flat_map line (take i layers) ++ line (get_or layers i d) = ap (flat_map line) (take_more layers i d h) ∙ sym (flat_map_more line [] (take i layers) (get_or layers i d)) in
    rw (now, space, is, e) (simp append_assoc)

pub loop-layer-preserved : goal.loop-layer-preserved
loop-layer-preserved g c = one_more c.args.layers.now c.loop-layer.layer-index _ c.args.text.now.items (codes "features") c.loop-layer.text.items c.push.new.self.items c.push_number.new.text.items c.loop-layer-test.true c.loop-layer.invariant c.in_ok-push.ensures.items c.in_ok-push_number.ensures

ended : (front words lines old new : List ℕ) → old ≡ front ++ (words ++ lines) → new ≡ old ++ 10 ∷ [] → new ≡ front ++ (words ++ (lines ++ 10 ∷ []))
ended front words lines old new is now = rw (now, is) (simp append_assoc)

pub returns : goal.returns
returns g c =
    let is = rw (take_all c.loop-layer.layer-index c.args.layers.now c.loop-layer-test.false) at c.loop-layer.invariant in
    ended c.args.text.now.items (codes "features") (flat_map (λ (z : LayerSize). 32 ∷ decimal z.features) c.args.layers.now) c.loop-layer.text.items _ is c.in_ok-push-2.ensures.items
