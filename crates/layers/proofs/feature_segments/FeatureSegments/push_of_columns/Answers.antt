use Rattle.std.proofs.Common.{ap, ◌≡◌, ◌∙◌, ◌++◌, ◌+◌, ◌-◌, ◌≤◌, ℕ, [], arith, get_or, length, replicate, rules}
use Rattle.std.specs.List.{flat_map}
use Rattle.std.proofs.lemmas.Option.{slice_get-get_or}
use Rattle.geom.specs.Segments.{ring_steps}
use Rattle.columns.specs.Layout.{feature_rings_in, plain}
use Rattle.layers.proofs.FeatureParts.{count_more, not_fewer, one_more}
use Rattle.layers.proofs.ColumnLayers.{owners_each}
use Rattle.layers.proofs.feature_segments.FeatureSegments.push_of_columns.Goals as goal

pub push_owners-requires : goal.push_owners-requires
push_owners-requires g c =
    let all = feature_rings_in c.args.layer.now in
    let rings = get_or all c.args.number [] in
    let there = slice_get-get_or all c.args.number [] c.requires.number in
    let longer = not_fewer (flat_map ring_steps (plain rings)) c.args.self.now.segments.items c.push_feature.new.segments.items (c.in_ok-push_feature.ensures.added rings there) in
    omega (arith, longer, c.requires.owned.one_each, c.len.ensures, c.push_feature.new.segments.ok)

pub returns-clause-owned : goal.returns-clause-owned
returns-clause-owned g c =
    let old = c.args.self.now in
    let all = feature_rings_in c.args.layer.now in
    let rings = get_or all c.args.number [] in
    let there = slice_get-get_or all c.args.number [] c.requires.number in
    let longer = not_fewer (flat_map ring_steps (plain rings)) old.segments.items c.push_feature.new.segments.items (c.in_ok-push_feature.ensures.added rings there) in
    let many : c.len.result ≡ length c.push_feature.new.segments.items = omega (arith, c.len.ensures, c.push_feature.new.segments.ok) in
    let below : old.features + 1 ≤ 2147483647 = search rules in
    record {
      one_each = owners_each old.owners.items c.push_owners.new.owners.items c.len.result old.features (omega (arith, longer, many, c.requires.owned.one_each)) c.in_ok-push_owners.ensures ∙ many;
      in_limit = c.in_ok-push_feature.ensures.in_limit;
      few = below;
    }

pub returns-clause-grows : goal.returns-clause-grows
returns-clause-grows g c =
    let all = feature_rings_in c.args.layer.now in
    let rings = get_or all c.args.number [] in
    let there = slice_get-get_or all c.args.number [] c.requires.number in
    (not_fewer (flat_map ring_steps (plain rings)) c.args.self.now.segments.items c.push_feature.new.segments.items (c.in_ok-push_feature.ensures.added rings there), omega arith)

pub returns-clause-added : goal.returns-clause-added
returns-clause-added g c = λ features from.
    let old = c.args.self.now in
    let all = feature_rings_in c.args.layer.now in
    let rings = get_or all c.args.number [] in
    let there = slice_get-get_or all c.args.number [] c.requires.number in
    let many : c.len.result ≡ length c.push_feature.new.segments.items = omega (arith, c.len.ensures, c.push_feature.new.segments.ok) in
    record {
      are_segments = one_more features (plain rings) old.segments.items c.push_feature.new.segments.items old.owners.items c.push_owners.new.owners.items old.features
          from.are_segments c.requires.owned.one_each from.count (c.in_ok-push_feature.ensures.added rings there)
          (c.in_ok-push_owners.ensures ∙ ap (λ (n : ℕ). old.owners.items ++ replicate (n - length old.owners.items) old.features) many);
      count = count_more features (plain rings) old.features from.count;
    }
