-- What a search for the first item out of place answers, in the words of its tests (own).
use Rattle.std.specs.Prelude.{◌<◌, ◌-◌, ℕ, List, get_or, length}
use Rattle.overlay_c.specs.Strips.{IsInPlace}

-- the item at a place fails its test, or the test of the order with the one before it
pub data IsUnlike {X : Type 0} (Fails : X → Type 0) (FailsOrder : X → X → Type 0) (items : List X) (place : ℕ) : Type 0 where
  is_none : ((d : X) → Fails (get_or items place d)) → IsUnlike Fails FailsOrder items place
  is_after : 0 < place → ((d : X) → FailsOrder (get_or items (place - 1) d) (get_or items place d)) → IsUnlike Fails FailsOrder items place

-- the first place where that is so; before it both tests are passed
pub record IsFirstUnlike {X : Type 0} (Passes Fails : X → Type 0) (PassesOrder FailsOrder : X → X → Type 0) (items : List X) (place : ℕ) : Type 0 where
  pub within : place < length items
  pub before : (k : ℕ) → k < place → IsInPlace Passes PassesOrder items k
  pub unlike : IsUnlike Fails FailsOrder items place
