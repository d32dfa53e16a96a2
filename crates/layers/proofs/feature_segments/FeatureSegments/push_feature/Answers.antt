use Rattle.std.proofs.Common.{ap, ◌≡◌, ◌∙◌, ◌++◌, ◌-◌, ℕ, arith, length, replicate}
use Rattle.std.specs.List.{flat_map}
use Rattle.geom.specs.Segments.{ring_steps}
use Rattle.layers.proofs.FeatureParts.{count_more, not_fewer, one_more}
use Rattle.layers.proofs.feature_segments.FeatureSegments.push_feature.Goals as goal

pub returns-clause-grows : goal.returns-clause-grows
returns-clause-grows g c = (not_fewer (flat_map ring_steps c.args.rings.now) c.args.self.now.segments.items c.push_rings.new.segments.items c.in_ok-push_rings.ensures.added, omega arith)

pub returns-clause-added : goal.returns-clause-added
returns-clause-added g c = λ features from.
    let old = c.args.self.now in
    let many : c.len.result ≡ length c.push_rings.new.segments.items = omega (arith, c.len.ensures, c.push_rings.new.segments.ok) in
    record {
      are_segments = one_more features c.args.rings.now old.segments.items c.push_rings.new.segments.items old.owners.items c.push_owners.new.owners.items old.features
          from.are_segments c.requires.owned.one_each from.count c.in_ok-push_rings.ensures.added
          (c.in_ok-push_owners.ensures ∙ ap (λ (n : ℕ). old.owners.items ++ replicate (n - length old.owners.items) old.features) many);
      count = count_more features c.args.rings.now old.features from.count;
    }
