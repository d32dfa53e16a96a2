-- Parts with an idle place beside each (own).
use Rattle.std.specs.Prelude.{◌≡◌, List, [], ◌∷◌, Option, Some, None}

-- each part, and an idle place behind it
unfoldable pub with_idle : {P : Type 0} → List P → List (Option P)
with_idle [] = []
with_idle (p ∷ ps) = Some p ∷ None ∷ with_idle ps

-- a part has an answer that belongs to it, an idle place has none
unfoldable pub IsAnswer : {P X : Type 0} → (P → X → Type 0) → Option P → Option X → Type 0
IsAnswer Belongs None answer = answer ≡ None
IsAnswer {X = X} Belongs (Some p) answer = (x : X) × (answer ≡ Some x) × Belongs p x
