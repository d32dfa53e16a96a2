-- The numbers of the rings that edges belong to (own).
use Rattle.std.specs.Prelude.{◌≡◌, ◌↔◌, ◌++◌, ℕ, ◌<◌, List, [], Contains, Option, None, length, map, slice_index, slice_index_or}
use Rattle.polygonize.specs.declared.written.Opening.{Opening}
use Rattle.polygonize.specs.Cycle.{Walked, seen_of}

-- the edges of the ring are those that have its number
abbrev pub IsRingOf : List ℕ → List ℕ → ℕ → Type 0
IsRingOf ring_at cycle number = (k : ℕ) → k < length ring_at → Contains cycle k ↔ (slice_index ring_at k ≡ number)

-- each of the edges has the number of the ring that it belongs to
pub record AreRingNumbers (edges : ℕ) (cycles : List (List ℕ)) (ring_at : List ℕ) : Type 0 where
  pub one_each : length ring_at ≡ edges
  pub each : (r : ℕ) → r < length cycles → IsRingOf ring_at (slice_index_or cycles r []) r

-- the edges of the ring have this number, and the rest is as it was
pub record IsNumbered (cycle : List ℕ) (number : ℕ) (old new : List ℕ) : Type 0 where
  pub numbered : (k : ℕ) → Contains cycle k → slice_index new k ≡ number
  pub rest : (k : ℕ) → ¬ (Contains cycle k) → slice_index new k ≡ slice_index old k

-- a cycle was walked from start on over what had no number yet, and has this number; it stands behind what the list had
pub record IsNumberedWalk (next old new : List ℕ) (start number : ℕ) (list longer : List ℕ) : Type 0 where
  pub cycle : List ℕ
  pub behind : longer ≡ list ++ cycle
  pub walked : Walked next (seen_of (length next) old) (seen_of (length next) new) start cycle
  pub numbered : IsNumbered cycle number old new

-- for each edge what is kept for its ring
abbrev pub kept_by : List ℕ → List (Option Opening) → List (Option Opening)
kept_by ring_at shells = map (λ r. slice_index_or shells r None) ring_at
