-- Edges that are no feature's border change no cover set (own).
use Rattle.std.specs.Prelude.{ℕ, Bool, true, false, List, [], ◌∷◌, filter}
use Rattle.cover_law.specs.Cover.{Bordered}

abbrev pub has_some : List ℕ → Bool
has_some [] = false
has_some (f ∷ fs) = true

-- the edges that are the border of some feature
abbrev pub changing : List Bordered → List Bordered
changing edges = filter (λ b. has_some b.features) edges
