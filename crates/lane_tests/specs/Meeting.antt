-- Which boxes meet a rectangle (own).
use Rattle.std.specs.Prelude.{◌≡◌, ◌↔◌, ◌<◌, ◌≤◌, ℕ, List, AllPairs, Contains, Some, slice_get}
use Rattle.geom.specs.Box.{ShareAPoint}
use Rattle.geom.specs.declared.rect.Rect.{Rect}

-- there is a box of this number, and it shares a point with the rectangle
abbrev pub MeetsAt : List Rect → Rect → ℕ → Type 0
MeetsAt boxes rect k = (b : Rect) × (slice_get boxes k ≡ Some b) × ShareAPoint b.lo b.hi rect.lo rect.hi

-- found are the numbers from `from` to below `to`, ascending, of the boxes that share a point with the rectangle
pub record AreMeeting (boxes : List Rect) (rect : Rect) (from to : ℕ) (found : List ℕ) : Type 0 where
  pub ascending : AllPairs (λ i j. i < j) found
  pub exact : (k : ℕ) → Contains found k ↔ ((from ≤ k) × (k < to) × MeetsAt boxes rect k)
