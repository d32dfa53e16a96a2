use Rattle.std.proofs.Common.{◌≡◌, ◌∙◌, ◌≤◌, ◌<◌, ℕ, List, ap, length, map, subst, sym, true}
use Rattle.std.proofs.Math.Logic.{∥∥₁_elim, ∥∥₁_map}
use Rattle.std.proofs.Props.{props}
use Rattle.std.proofs.lemmas.List.{length-map}
use Rattle.std.specs.Prelude.{All, AllPairs}
use Rattle.geom.proofs.Lists.{In, in_contains, in_map}
use Rattle.geom.proofs.Owners.{all_in}
use Rattle.cover_law.specs.Changing.{has_some}
use Rattle.cover_law.specs.Cover.{Bordered, bordered}
use Rattle.cover_law.specs.declared.border.Border.{Border}
use Rattle.feature_links.specs.declared.link.FeatureLink.{FeatureLink}
use Rattle.feature_links.specs.Groups.{AreGroups, bordered_by, feature_of}
use Rattle.feature_links.proofs.Standing.{all_features_stand}
use Rattle.linking.proofs.BorderLaws.{feature_below, groups_closed, groups_noded, groups_of}
use Rattle.linking.proofs.LinkedLaws.{all_unmapped}
use Rattle.linking.proofs.bordering.borders_by_links.Goals as goal

-- the features of all links are those of the groups
grouped : (odd : List FeatureLink) (features : List ℕ) (borders : List Border) → features ≡ map feature_of odd → AreGroups odd (map (bordered_by odd) borders) → AreGroups odd (map (bordered features) borders)
grouped odd features borders are h = subst (λ (bs : List Bordered). AreGroups odd bs) (sym (all_features_stand odd features are borders)) h

pub returns-clause-borders : goal.returns-clause-borders
returns-clause-borders g c =
    let odd = c.args.odd.now in
    let borders = c.in_ok-borders.borders.items in
    let features = c.in_ok-features.features.items in
    let groups = map (bordered features) borders in
    let are = grouped odd features borders c.in_ok-features.ensures c.in_ok-borders.ensures.groups in
    let all = c.requires.odd in
    ∥∥₁_map all.1 (λ routes count below. groups_of c.args.segments.now c.args.owners.now c.requires.owners all.0 routes odd all.2 groups are count below)

pub returns-clause-noded : goal.returns-clause-noded
returns-clause-noded g c =
    let odd = c.args.odd.now in
    let borders = c.in_ok-borders.borders.items in
    let features = c.in_ok-features.features.items in
    let groups = map (bordered features) borders in
    let are = grouped odd features borders c.in_ok-features.ensures c.in_ok-borders.ensures.groups in
    let all = c.requires.odd in
    ∥∥₁_elim all.1 (hlevel props) (λ routes. groups_noded c.args.segments.now c.args.owners.now c.requires.owners all.0 routes odd all.2 groups are)

pub returns-clause-closed : goal.returns-clause-closed
returns-clause-closed g c = λ count below closed limits.
    let odd = c.args.odd.now in
    let borders = c.in_ok-borders.borders.items in
    let features = c.in_ok-features.features.items in
    let groups = map (bordered features) borders in
    let are = grouped odd features borders c.in_ok-features.ensures c.in_ok-borders.ensures.groups in
    let all = c.requires.odd in
    record {
      ascending = are.ascending;
      in_limit = ∥∥₁_elim all.1 (hlevel props) (λ routes. (groups_closed c.args.segments.now c.args.owners.now c.requires.owners all.0 routes odd all.2 groups are count below closed limits).in_limit);
      noded = ∥∥₁_elim all.1 (hlevel props) (λ routes. groups_noded c.args.segments.now c.args.owners.now c.requires.owners all.0 routes odd all.2 groups are);
      even = λ f. ∥∥₁_elim all.1 (hlevel props) (λ routes. (groups_closed c.args.segments.now c.args.owners.now c.requires.owners all.0 routes odd all.2 groups are count below closed limits).even f);
    }

pub returns-clause-some : goal.returns-clause-some
returns-clause-some g c =
    let odd = c.args.odd.now in
    let borders = c.in_ok-borders.borders.items in
    let features = c.in_ok-features.features.items in
    let groups = map (bordered features) borders in
    let are = grouped odd features borders c.in_ok-features.ensures c.in_ok-borders.ensures.groups in
    all_unmapped (λ (b : Bordered). has_some b.features ≡ true) (bordered features) borders (all_in (λ (b : Bordered). has_some b.features ≡ true) groups (λ b i. are.some b (in_contains groups b i)))

pub returns-clause-ordered : goal.returns-clause-ordered
returns-clause-ordered g c =
    let odd = c.args.odd.now in
    let borders = c.in_ok-borders.borders.items in
    let features = c.in_ok-features.features.items in
    let groups = map (bordered features) borders in
    let are = grouped odd features borders c.in_ok-features.ensures c.in_ok-borders.ensures.groups in
    all_unmapped (λ (b : Bordered). AllPairs (λ f g. f < g) b.features) (bordered features) borders (all_in (λ (b : Bordered). AllPairs (λ f g. f < g) b.features) groups (λ b i. are.features b (in_contains groups b i)))

pub returns-clause-inside : goal.returns-clause-inside
returns-clause-inside g c =
    let odd = c.args.odd.now in
    let same = ap length c.in_ok-features.ensures ∙ length-map odd feature_of in
    subst (λ (n : ℕ). All (λ (b : Border). (b.from ≤ b.to) × (b.to ≤ n)) c.in_ok-borders.borders.items) (sym same) c.in_ok-borders.ensures.inside

pub returns-clause-below : goal.returns-clause-below
returns-clause-below g c = λ count below.
    let odd = c.args.odd.now in
    let borders = c.in_ok-borders.borders.items in
    let features = c.in_ok-features.features.items in
    let groups = map (bordered features) borders in
    let are = grouped odd features borders c.in_ok-features.ensures c.in_ok-borders.ensures.groups in
    let all = c.requires.odd in
    all_in (λ (f : ℕ). f < count) features (λ f i.
    let l = in_map feature_of odd f (subst (λ (fs : List ℕ). In f fs) c.in_ok-features.ensures i) in
    subst (λ (n : ℕ). n < count) l.2 (∥∥₁_elim all.1 (hlevel props) (λ routes. feature_below c.args.segments.now c.args.owners.now c.requires.owners all.0 routes odd all.2 groups are count below l.0 (in_contains odd l.0 l.1))))
