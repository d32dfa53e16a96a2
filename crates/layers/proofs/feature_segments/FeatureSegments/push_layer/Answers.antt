use Rattle.std.proofs.Common.{rules, ◌-◌, List, arith, subst, sym, ap, ◌∙◌, ◌++◌, ◌∷◌, [], take, ◌≡◌, length}
use Rattle.std.proofs.lemmas.List.{take_all}
use Rattle.geom.specs.declared.point.Pt.{Pt}
use Rattle.layers.specs.FeatureSegments.{AreSegmentsFrom, all_features}
use Rattle.layers.specs.declared.feature_segments.LayerSize.{LayerSize}
use Rattle.layers.proofs.FeatureParts.{features_snoc, own_count, own_steps, sizes_features, sizes_segments, with_next}
use Rattle.layers.proofs.feature_segments.FeatureSegments.push_layer.Goals as goal

pub loop-number-preserved : goal.loop-number-preserved
loop-number-preserved g c =
    let inv = c.loop-number.invariant in
    let new = c.in_ok-push_feature.ensures in
    record {
      owned = new.owned;
      sizes = new.sizes ∙ inv.sizes;
      longer = omega (arith, inv.longer, new.grows.0);
      more = omega (arith, inv.more, new.grows.1);
      added = λ features from. subst (λ (fs : List (List (List Pt))). AreSegmentsFrom fs c.push_feature.new.self) (with_next features c.args.layer.now c.loop-number.number c.feature.result.now c.feature.ensures)
          (new.added (features ++ take c.loop-number.number c.args.layer.now) (inv.added features from));
    }

pub overflow_sub-len : goal.overflow_sub-len
overflow_sub-len g c = omega (arith, c.len-segments.ensures, c.len.ensures, c.args.self.now.segments.ok, c.loop-number.self.segments.ok, c.loop-number.invariant.longer)

pub overflow_sub-self : goal.overflow_sub-self
overflow_sub-self g c = c.loop-number.invariant.more

pub returns : goal.returns
returns g c = λ layers from.
    let old = c.args.self.now in
    let now = c.loop-number.self in
    let inv = c.loop-number.invariant in
    let layer = c.args.layer.now in
    let whole : take c.loop-number.number layer ≡ layer = take_all c.loop-number.number layer (omega (arith, c.count-number-end.ensures, c.loop-number-test.false)) in
    let all = subst (λ (fs : List (List (List Pt))). AreSegmentsFrom (all_features layers ++ fs) now) whole (inv.added (all_features layers) from.all) in
    let here = subst (λ (fs : List (List (List Pt))). AreSegmentsFrom fs now) (sym (features_snoc layers layer)) all in
    let first : c.len-segments.result ≡ length old.segments.items = omega (arith, c.len-segments.ensures, old.segments.ok) in
    let last : c.len.result ≡ length now.segments.items = omega (arith, c.len.ensures, now.segments.ok) in
    let value : c.in_ok-map_err.field-0 ≡ c.len.result - c.len-segments.result = search rules in
    let added : c.len.result - c.len-segments.result ≡ length now.segments.items - length old.segments.items = omega (arith, first, last) in
    let size : LayerSize = record { segments = c.in_ok-map_err.field-0; features = now.features - old.features } in
    let sizes : c.push.new.self.items ≡ old.sizes.items ++ size ∷ [] = c.in_ok-push.ensures.items ∙ ap (λ zs. zs.items ++ size ∷ []) inv.sizes in
    record {
      owned = record { one_each = inv.owned.one_each; in_limit = inv.owned.in_limit; few = inv.owned.few };
      all = record { are_segments = here.are_segments; count = here.count };
      features_are = sizes_features layers layer old.sizes.items c.push.new.self.items size sizes (own_count (all_features layers) layer old.features now.features from.all.count all.count) from.features_are;
      segments_are = sizes_segments layers layer old.sizes.items c.push.new.self.items size sizes
          (value ∙ added ∙ own_steps (all_features layers) layer old.segments.items now.segments.items old.owners.items now.owners.items from.all.are_segments all.are_segments) from.segments_are;
    }
