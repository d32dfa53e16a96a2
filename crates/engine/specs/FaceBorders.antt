-- The borders of features, as they are made (own).
use Rattle.std.specs.Prelude.{◌≡◌, ◌<◌, ◌≤◌, ℕ, List, All, AllPairs, length, map}
use Rattle.geom.specs.declared.segment.Seg.{Seg}
use Rattle.cover_law.specs.Borders.{AreBordered, IsClosedFeature}
use Rattle.cover_law.specs.Changing.{changing}
use Rattle.cover_law.specs.Cover.{AreBorders, Bordered, bordered}
use Rattle.linking.specs.declared.bordering.RoundedBorders.{RoundedBorders}
use Rattle.layers.specs.Segments.{AllInLimit}

-- the borders, with their features, as the definitions have them
abbrev pub borders_in : {M : Type 0} → RoundedBorders M → List Bordered
borders_in r = map (bordered r.features.items) r.borders.items

-- the rounded edges of segments that are the border of some feature, for any number that is above all owners
abbrev pub AreChangingEdges : List Seg → List ℕ → List Bordered → Type 0
AreChangingEdges segments owners borders = (count : ℕ) → All (λ f. f < count) owners → (edges : List Bordered) × AreBordered count segments owners edges × (borders ≡ changing edges)

-- the rounded edges of segments that are the border of some feature, as code holds them
pub record AreRoundedBorders {M : Type 0} (segments : List Seg) (owners : List ℕ) (r : RoundedBorders M) : Type 0 where
  pub borders : ∥ AreChangingEdges segments owners (borders_in r) ∥₁
  pub closed : (count : ℕ) → All (λ f. f < count) owners → ((f : ℕ) → f < count → IsClosedFeature f segments owners) → AllInLimit segments → AreBorders (borders_in r)
  pub ordered : All (λ b. AllPairs (λ f g. f < g) (bordered r.features.items b).features) r.borders.items
  pub inside : All (λ b. (b.from ≤ b.to) × (b.to ≤ length r.features.items)) r.borders.items
  pub below : (count : ℕ) → All (λ f. f < count) owners → All (λ f. f < count) r.features.items
