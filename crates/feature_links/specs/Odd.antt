-- Links between neighbours in the routes of features, and those that occur an odd number of times (own).
use Rattle.std.specs.Prelude.{◌≡◌, ◌⊎◌, ◌↔◌, ◌<◌, ◌==◌, ◌&&◌, Bool, true, List, [], ◌∷◌, ◌++◌, AllPairs, Contains, count_by}
use Rattle.geom.specs.EdgeOrder.{IsEdgeBefore}
use Rattle.geom.specs.Rounded.{is_odd}
use Rattle.geom.specs.Segments.{same_point}
use Rattle.feature_links.specs.declared.link.FeatureLink.{FeatureLink}

-- by the edge, then by the feature
abbrev pub IsLinkBefore : FeatureLink → FeatureLink → Type 0
IsLinkBefore l m = IsEdgeBefore l.edge m.edge ⊎ ((l.edge ≡ m.edge) × (l.feature < m.feature))

abbrev pub AreInOrder : List FeatureLink → Type 0
AreInOrder links = AllPairs (λ l m. (l ≡ m) ⊎ IsLinkBefore l m) links

abbrev pub same_link : FeatureLink → FeatureLink → Bool
same_link l m = (same_point l.edge.p m.edge.p && same_point l.edge.q m.edge.q) && (l.feature == m.feature)

-- those of the links that occur an odd number of times, each once, in order
pub record AreOdd (links odd : List FeatureLink) : Type 0 where
  pub ascending : AllPairs IsLinkBefore odd
  pub exact : (l : FeatureLink) → Contains odd l ↔ (is_odd (count_by (same_link l) links) ≡ true)

-- x is the last of the list
abbrev pub EndsIn : List FeatureLink → FeatureLink → Type 0
EndsIn xs x = (front : List FeatureLink) × (xs ≡ front ++ x ∷ [])

-- the link is taken away, where it was the last, or else it is added
abbrev pub IsToggled : List FeatureLink → FeatureLink → List FeatureLink → Type 0
IsToggled old x new = (old ≡ new ++ x ∷ []) ⊎ ((¬ (EndsIn old x)) × (new ≡ old ++ x ∷ []))
