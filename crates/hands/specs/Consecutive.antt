-- Parts of a list that follow one another (own).
use Rattle.std.specs.Prelude.{◌≡◌, ℕ, ◌≤◌, List, [], ◌∷◌}
use Rattle.hands.specs.declared.part.Part.{Part}

-- the parts follow one another, from a place to before another one
unfoldable pub ArePartsOf : ℕ → ℕ → List Part → Type 0
ArePartsOf from past [] = from ≡ past
ArePartsOf from past (p ∷ ps) = (p.from ≡ from) × (from ≤ p.past) × ArePartsOf p.past past ps
