-- Sets as trees (own): each splits at the highest bit in which its features differ, and no tree is there twice.
use Rattle.std.specs.Prelude.{◌≡◌, ◌≢◌, ◌⊎◌, ◌<◌, ◌≤◌, ℕ, List, [], ◌∷◌, ◌++◌, Contains, Option, Some, length, slice_index_or}
use Rattle.cover_sets.specs.declared.tree.Tree.{Tree}
use Rattle.cover_sets.specs.Blocks.{Splits}
use Rattle.cover_sets.specs.Key.{key_of}
use Rattle.cover_sets.specs.Sets.{AreSets, set_of}

-- the sets of these, and behind them those of trees: the features of the low part, and then those of the high part
abbrev pub sets_after : List (List ℕ) → List Tree → List (List ℕ)
sets_after sets [] = sets
sets_after sets (t ∷ ts) = sets_after (sets ++ (set_of sets t.low ++ set_of sets t.high) ∷ []) ts

abbrev pub sets_of : List Tree → List (List ℕ)
sets_of trees = sets_after [] trees

-- n is the number of a set that is not empty, and of a tree only where that was made before
abbrev pub IsPart : ℕ → ℕ → Type 0
IsPart place n = (n < place) ⊎ ((2147483648 ≤ n) × (n < 4294967295))

pub record IsTree (sets : List (List ℕ)) (place : ℕ) (tree : Tree) : Type 0 where
  pub low : IsPart place tree.low
  pub high : IsPart place tree.high
  pub parts : slice_index_or sets place [] ≡ set_of sets tree.low ++ set_of sets tree.high
  pub levels : tree.levels ≤ 31
  pub splits : Splits tree.levels (set_of sets tree.low) (set_of sets tree.high)
  pub member : Contains (slice_index_or sets place []) tree.member
  pub size : tree.size ≡ length (slice_index_or sets place [])
  pub some_low : set_of sets tree.low ≢ []
  pub some_high : set_of sets tree.high ≢ []

-- trees, and what the table finds at the key of two parts
pub record AreTrees (trees : List Tree) (found : ℕ → Option ℕ) : Type 0 where
  pub few : length trees ≤ 2147483648
  pub sets : AreSets (sets_of trees)
  pub each : (place : ℕ) (d : Tree) → place < length trees → IsTree (sets_of trees) place (slice_index_or trees place d)
  pub is_found : (place : ℕ) (d : Tree) → place < length trees → found (key_of (slice_index_or trees place d).low (slice_index_or trees place d).high) ≡ Some place
  pub is_there : (key place : ℕ) → found key ≡ Some place → (place < length trees) × ((d : Tree) → key ≡ key_of (slice_index_or trees place d).low (slice_index_or trees place d).high)
