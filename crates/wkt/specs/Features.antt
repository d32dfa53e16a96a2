-- The features of a layer text: its geometries, each with its own rings (own).
use Rattle.std.specs.Prelude.{◌≡◌, ℕ, ◌+◌, ◌≤◌, ◌⊎◌, List, [], ◌∷◌, Some, length, drop, map, slice_get, slice_range}
use Rattle.std.specs.List.{flat_map}
use Rattle.geom.specs.declared.point.Pt.{Pt}
use Rattle.wkt.specs.declared.outline.Outline.{Outline}
use Rattle.wkt.specs.LayerText.{Ring, Spaces, IsGeometry, Geometries, joined}
use Rattle.wkt.specs.Refusals.{IsAccepted, plain}
use Rattle.wkt.specs.Outlines.{IsOutline}

-- as IsLayerAt, with the rings of each geometry apart: `EMPTY` is a feature without rings
abbrev pub IsFeaturesAt : ℕ → List ℕ → List (List Ring) → Type 0
IsFeaturesAt n t features = (Spaces t [] × (features ≡ []))
    ⊎ ((u v : List ℕ) × (first : List Ring) × (others : List (List Ring)) × Spaces t u × IsGeometry n u first v × Geometries n v others × (features ≡ first ∷ others))

-- the text is a layer with these features, in text order
unfoldable pub HasFeatures : List ℕ → List (List Ring) → Type 0
HasFeatures text features = IsFeaturesAt (length text) text features

-- the text is accepted, and stands for these features, whose rings' first points are not repeated
abbrev pub StandsForFeatures : List ℕ → List (List (List Pt)) → Type 0
StandsForFeatures text features = (written : List (List Ring)) × HasFeatures text written × IsAccepted text (joined written) × (map plain written ≡ features)

-- the rings of all features
abbrev pub all_rings : List (List (List Pt)) → List (List Pt)
all_rings features = flat_map (λ rings. rings) features

-- the number of each feature's first ring, where k rings stand before them
abbrev pub starts_from : {X : Type 0} → ℕ → List (List X) → List ℕ
starts_from k [] = []
starts_from k (f ∷ fs) = k ∷ starts_from (k + length f) fs

-- the rings from each of these numbers to the next one or the end
abbrev pub features_of : List (List Pt) → List ℕ → List (List (List Pt))
features_of rings [] = []
features_of rings (s ∷ []) = drop s rings ∷ []
features_of rings (s ∷ (t ∷ ts)) = slice_range rings s t ∷ features_of rings (t ∷ ts)

-- the features have these rings, and begin with the rings of these numbers
pub record AreCut (features : List (List (List Pt))) (rings : List (List Pt)) (starts : List ℕ) : Type 0 where
  pub all : all_rings features ≡ rings
  pub firsts : starts_from 0 features ≡ starts

-- the feature with this number has the rings from one number to another
pub record IsFeatureAt (features : List (List (List Pt))) (number from past : ℕ) : Type 0 where
  pub order : from ≤ past
  pub inside : past ≤ length (all_rings features)
  pub is : slice_get features number ≡ Some (slice_range (all_rings features) from past)

-- the text stands for the features, and before them stands the outline of their rings
abbrev pub AreGathered : List ℕ → Outline × List (List (List Pt)) → Type 0
AreGathered text found = StandsForFeatures text found.1 × IsOutline (all_rings found.1) found.0

-- an outline stands before the features whose rings it is of
abbrev pub AreOutlinedFeatures : Outline × List (List (List Pt)) → Type 0
AreOutlinedFeatures found = IsOutline (all_rings found.1) found.0
