-- Numbers that fall into classes by links between them (own).
use Rattle.std.specs.Prelude.{◌≡◌, ◌≢◌, ◌⊎◌, ◌<◌, ◌≤◌, ℕ, List, All, Contains, length, slice_index}
use Rattle.strip_polygons.specs.declared.classes.Link.{Link}

-- links, each forward or backward, lead from one number to another
pub data AreChained (links : List Link) : ℕ → ℕ → Type 0 where
  none : {i : ℕ} → AreChained links i i
  step : {i j k : ℕ} (l : Link) → Contains links l → ((l.first ≡ i) × (l.second ≡ j)) ⊎ ((l.first ≡ j) × (l.second ≡ i)) → AreChained links j k → AreChained links i k

-- both ends of each link are numbers below the bound
abbrev pub AreLinksBelow : ℕ → List Link → Type 0
AreLinksBelow count links = All (λ l. (l.first < count) × (l.second < count)) links

-- For each number below the bound one of its class, its root: the ends of a link have the same, and links lead from each number to its root.
pub record AreRoots (count : ℕ) (links : List Link) (roots : List ℕ) : Type 0 where
  pub same_length : length roots ≡ count
  pub inside : All (λ r. r < count) roots
  pub linked : All (λ l. slice_index roots l.first ≡ slice_index roots l.second) links
  pub chained : (i : ℕ) → i < count → AreChained links i (slice_index roots i)

-- ---- the forest in which the classes are kept

-- no number is below a greater one
abbrev pub IsForest : List ℕ → Type 0
IsForest above = (k : ℕ) → slice_index above k ≤ k

-- from a number the way up ends at its root, which is above itself
pub data IsRoot (above : List ℕ) : ℕ → ℕ → Type 0 where
  itself : {i : ℕ} → slice_index above i ≡ i → IsRoot above i i
  further : {i r : ℕ} → slice_index above i < i → IsRoot above (slice_index above i) r → IsRoot above i r

-- the trees that the ends of a link lie in have become one under the lesser root, and no other has changed
pub record IsJoined (old new : List ℕ) (first second : ℕ) : Type 0 where
  pub greater : ℕ
  pub lesser : ℕ
  pub ends : (IsRoot old first greater × IsRoot old second lesser) ⊎ (IsRoot old first lesser × IsRoot old second greater)
  pub joined : (k : ℕ) → IsRoot old k greater → IsRoot new k lesser
  pub others : (k r : ℕ) → r ≢ greater → IsRoot old k r → IsRoot new k r
