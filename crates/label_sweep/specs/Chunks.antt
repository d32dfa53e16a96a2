-- Lists kept in chunks (own).
use Rattle.std.specs.Prelude.{ℕ, ◌+◌, ◌<◌, ◌≤◌, Bool, false, List, [], ◌∷◌, All, drop, length, take, flat_map}
use Rattle.std.specs.List.{HoldsAt}
use Rattle.std.specs.declared.vec.Vec.{Vec}
use Rattle.label_sweep.specs.declared.status.Place.{Place}

-- the items of all chunks
abbrev pub joined : {X A : Type 0} → List (Vec X A) → List X
joined chunks = flat_map (λ c. c.items) chunks

-- there is a first chunk, and no other is empty
pub record AreChunks {X A : Type 0} (chunks : List (Vec X A)) : Type 0 where
  pub some : 0 < length chunks
  pub filled : All (λ c. 0 < length c.items) (drop 1 chunks)

-- a place lies within its chunk or at its end
pub record LiesWithin {X A : Type 0} (chunks : List (Vec X A)) (place : Place) : Type 0 where
  pub chunk : place.chunk < length chunks
  pub within : HoldsAt (λ c. place.within ≤ length c.items) chunks place.chunk

-- it does, and behind the first item of any but the first chunk
pub record IsPlace {X A : Type 0} (chunks : List (Vec X A)) (place : Place) : Type 0 where
  pub chunk : place.chunk < length chunks
  pub within : HoldsAt (λ c. place.within ≤ length c.items) chunks place.chunk
  pub behind_first : 0 < place.chunk → 0 < place.within

-- the number of items before a place
abbrev pub number_of : {X A : Type 0} → List (Vec X A) → Place → ℕ
number_of chunks place = length (joined (take place.chunk chunks)) + place.within

-- whether there is a first element, and it passes
abbrev pub opens : {X : Type 0} → (X → Bool) → List X → Bool
opens test [] = false
opens test (x ∷ xs) = test x
