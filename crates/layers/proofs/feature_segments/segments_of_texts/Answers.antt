use Rattle.std.proofs.Common.{◌≡◌, [], List, ℕ, map, subst, sym, arith, ◌<◌, length, Bor}
use Rattle.std.proofs.Math.ListN.{get_or-map}
use Rattle.std.proofs.lemmas.List.{length-map, nil_from_length}
use Rattle.std.specs.Prelude.{None}
use Rattle.wkt.specs.Features.{StandsForFeatures}
use Rattle.layers.proofs.InLayers.{IsKept, kept_now, listed_next, none_listed}
use Rattle.layers.proofs.feature_segments.segments_of_texts.Goals as goal

-- a text, and what stands past the last one
abbrev text_of : Bor (List ℕ) → List ℕ
text_of t = t.now

abbrev blank : Bor (List ℕ)
blank = record { ref_ptr = (0, 0); now = [] }

pub loop-text-init : goal.loop-text-init
loop-text-init g c =
    let texts : List (List ℕ) = map text_of c.args.checked.now.layers.now in
    rw (c.into_iter-kept.ensures.rest, c.unwrap_or.ensures) (none_listed texts c.args.kept c.new-2.result c.in_ok-all.all c.requires c.new-2.ensures.items c.in_ok-all.ensures)

pub features_of-requires : goal.features_of-requires
features_of-requires g c =
    let layers = c.args.checked.now.layers.now in
    let i = c.loop-text.text-index in
    let texts : List (List ℕ) = map text_of layers in
    let below : i < length texts = omega (arith, c.loop-text-test.true, length-map layers text_of) in
    subst (λ (t : List ℕ). IsKept t c.flatten.result) (get_or-map text_of layers i blank)
    (rw c.flatten.ensures (kept_now texts i below c.next.result c.loop-text.kept.rest.items c.next.new.self.rest.items c.next.ensures.items c.loop-text.invariant.left))

pub loop-text-preserved : goal.loop-text-preserved
loop-text-preserved g c =
    let layers = c.args.checked.now.layers.now in
    let i = c.loop-text.text-index in
    let texts : List (List ℕ) = map text_of layers in
    let below : i < length texts = omega (arith, c.loop-text-test.true, length-map layers text_of) in
    let inv = c.loop-text.invariant in
    let none : c.next.result ≡ None → c.next.new.self.rest.items ≡ [] = λ e. nil_from_length c.next.new.self.rest.items (omega (arith, (rw e at c.next.ensures.cases).1, c.next.new.self.rest.ok.0)) in
    listed_next texts i below c.next.result c.loop-text.kept.rest.items c.next.new.self.rest.items c.loop-text.all c.push_layer.new.self c.in_ok-layer.layer inv c.next.ensures.items none
    (subst (λ (t : List ℕ). StandsForFeatures t c.in_ok-layer.layer) (sym (get_or-map text_of layers i blank)) c.in_ok-layer.ensures.answer)
    (c.in_ok-push_layer.ensures inv.layers inv.all)
