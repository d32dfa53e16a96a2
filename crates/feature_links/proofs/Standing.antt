-- Features that stand among those of all links are those of the links that stand there.
use Rattle.std.proofs.Common.{◌≡◌, ℕ, ◌-◌, List, [], ◌∷◌, drop, map, take, refl, ap, ◌∙◌}
use Rattle.std.specs.Prelude.{slice_range}
use Rattle.std.proofs.lemmas.List.{drop-map, take-map}
use Rattle.cover_law.specs.Cover.{Bordered, bordered}
use Rattle.cover_law.specs.declared.border.Border.{Border}
use Rattle.feature_links.specs.declared.link.FeatureLink.{FeatureLink}
use Rattle.feature_links.specs.Groups.{bordered_by, feature_of}

pub features_stand : (links : List FeatureLink) (b : Border) → bordered (map feature_of links) b ≡ bordered_by links b
features_stand links b = λ i. record { edge = b.edge; features = same i }
  where
    same : slice_range (map feature_of links) b.from b.to ≡ map feature_of (slice_range links b.from b.to)
    same = ap (take (b.to - b.from)) (drop-map feature_of b.from links) ∙ take-map feature_of (b.to - b.from) (drop b.from links)

-- of all borders
pub all_features_stand : (links : List FeatureLink) (features : List ℕ) → features ≡ map feature_of links → (borders : List Border) → map (bordered features) borders ≡ map (bordered_by links) borders
all_features_stand links features is [] = refl
all_features_stand links features is (b ∷ bs) =
    ap (λ (x : Bordered). x ∷ map (bordered features) bs) (ap (λ (fs : List ℕ). bordered fs b) is ∙ features_stand links b) ∙ ap (λ (xs : List Bordered). bordered_by links b ∷ xs) (all_features_stand links features is bs)
