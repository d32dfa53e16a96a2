-- Pieces: what the routes have in one tile (own).
use Rattle.std.specs.Prelude.{◌≡◌, ◌⊎◌, ◌↔◌, ℕ, ◌<◌, AllPairs, Contains, List, Option, Some, get_or, length, map, slice_get}
use Rattle.std.specs.Option.{option_map}
use Rattle.std.specs.List.{filter_map}
use Rattle.geom.specs.declared.point.Pt.{Pt}
use Rattle.geom.specs.declared.rect.Rect.{Rect}
use Rattle.geom.specs.declared.segment.Seg.{Seg}
use Rattle.geom.specs.Hot.{IsHot}
use Rattle.geom.specs.Route.{Meets, IsEarlier}
use Rattle.hot_region.specs.Rects.{IsIn}
use Rattle.hot_region.specs.Candidates.{AreOwnedHot}
use Rattle.routing.specs.declared.record.Record.{Record}
use Rattle.routing.specs.declared.record.Candidate.{Candidate}
use Rattle.routing.specs.Steps.{steps_to}

-- ---- of all segments

-- the numbers of all segments, in their order
pub record AreAllNumbers (segments : List Seg) (numbers : List ℕ) : Type 0 where
  pub size : length numbers ≡ length segments
  pub each : (k d : ℕ) → k < length segments → get_or numbers k d ≡ k

-- c is an end of s
abbrev pub IsEnd : Seg → Pt → Type 0
IsEnd s c = (s.a ≡ c) ⊎ (s.b ≡ c)

-- r tells a hot pixel that the segment of its number meets
pub record IsRecord (segments : List Seg) (r : Record) : Type 0 where
  pub s : Seg
  pub is_at : slice_get segments r.segment ≡ Some s
  pub hot : IsHot segments r.pixel
  pub met : Meets s r.pixel
  pub steps_are : r.steps ≡ steps_to s r.pixel

-- such a pixel that is no end of the segment
pub record IsInnerRecord (segments : List Seg) (r : Record) : Type 0 where
  pub known : IsRecord segments r
  pub inner : ¬ (IsEnd known.s r.pixel)

-- r tells an end of the segment of its number
pub record IsEndRecord (segments : List Seg) (r : Record) : Type 0 where
  pub s : Seg
  pub is_at : slice_get segments r.segment ≡ Some s
  pub is_end : IsEnd s r.pixel
  pub steps_are : r.steps ≡ steps_to s r.pixel

-- by segment, then along the segment
abbrev pub IsAlong : List Seg → Record → Record → Type 0
IsAlong segments r q = (r.segment < q.segment) ⊎ ((r.segment ≡ q.segment) × ((s : Seg) → slice_get segments r.segment ≡ Some s → IsEarlier s r.pixel q.pixel))

-- the number of owned hot pixels, and the records of those that segments meet, by segment, then along the segment
pub record IsPieceOf (Owned : Pt → Type 0) (segments : List Seg) (hot : ℕ) (records : List Record) : Type 0 where
  pub pixels : List Pt
  pub are_hot : AreOwnedHot Owned segments pixels
  pub hot_is : hot ≡ length pixels
  pub ordered : AllPairs (IsAlong segments) records
  pub exact : (r : Record) → Contains records r ↔ (IsRecord segments r × Owned r.pixel)

-- the owned hot pixels, and the records of those that segments meet between their ends, in any order
pub record IsPartOf (Owned : Pt → Type 0) (segments : List Seg) (pixels : List Pt) (records : List Record) : Type 0 where
  pub are_hot : AreOwnedHot Owned segments pixels
  pub exact : (r : Record) → Contains records r ↔ (IsInnerRecord segments r × Owned r.pixel)

-- ---- of the candidates that a piece carries

-- the segment of this number, with it
abbrev pub candidate_at : List Seg → ℕ → Option Candidate
candidate_at segments k = option_map (λ s. record { number = k; segment = s }) (slice_get segments k)

abbrev pub candidates_of : List Seg → List ℕ → List Candidate
candidates_of segments numbers = filter_map (candidate_at segments) numbers

abbrev pub segments_of : List Candidate → List Seg
segments_of candidates = map (λ c. c.segment) candidates

-- r tells a pixel of the tile that is hot for the candidates and that the candidate of its number meets
pub record IsRecordIn (tile : Rect) (candidates : List Candidate) (r : Record) : Type 0 where
  pub s : Seg
  pub listed : Contains candidates (record { number = r.segment; segment = s })
  pub hot : IsHot (segments_of candidates) r.pixel
  pub met : Meets s r.pixel
  pub in_tile : IsIn tile r.pixel
  pub steps_are : r.steps ≡ steps_to s r.pixel

-- by segment, then along the segment
abbrev pub IsAlongIn : List Candidate → Record → Record → Type 0
IsAlongIn candidates r q = (r.segment < q.segment) ⊎ ((r.segment ≡ q.segment) × ((s : Seg) → Contains candidates (record { number = r.segment; segment = s }) → IsEarlier s r.pixel q.pixel))

-- the number of the tile's pixels that are hot for the candidates, and their records
pub record IsPiece (tile : Rect) (candidates : List Candidate) (hot : ℕ) (records : List Record) : Type 0 where
  pub pixels : List Pt
  pub are_hot : AreOwnedHot (IsIn tile) (segments_of candidates) pixels
  pub hot_is : hot ≡ length pixels
  pub ordered : AllPairs (IsAlongIn candidates) records
  pub exact : (r : Record) → Contains records r ↔ IsRecordIn tile candidates r
