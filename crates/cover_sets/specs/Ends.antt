-- The least and the greatest of some features.
use Rattle.std.specs.Prelude.{◌≤◌, ℕ, List, All, Contains}

-- f is among these, and none of them is less
abbrev pub IsLeast : List ℕ → ℕ → Type 0
IsLeast set f = Contains set f × All (λ g. f ≤ g) set

-- f is among these, and none of them is greater
abbrev pub IsGreatest : List ℕ → ℕ → Type 0
IsGreatest set f = Contains set f × All (λ g. g ≤ f) set
