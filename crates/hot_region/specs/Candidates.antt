-- Candidates: some segments of a list, by their numbers (own).
use Rattle.std.specs.Prelude.{◌≡◌, ◌↔◌, ℕ, ◌<◌, All, AllPairs, Contains, List, Some, length, slice_get}
use Rattle.std.specs.List.{filter_map}
use Rattle.std.specs.List.Sorted.{IsStrictlyIncreasing}
use Rattle.geom.specs.declared.point.Pt.{Pt}
use Rattle.geom.specs.declared.segment.Seg.{Seg}
use Rattle.geom.specs.Order.{IsBefore}
use Rattle.geom.specs.Hot.{IsHot}
use Rattle.geom.specs.Route.{Meets}

-- the segments of these numbers
abbrev pub chosen : List Seg → List ℕ → List Seg
chosen segments numbers = filter_map (λ k. slice_get segments k) numbers

-- numbers of segments, ascending and each once, those of all segments that meet an owned pixel among them
pub record AreCandidates (Owned : Pt → Type 0) (segments : List Seg) (numbers : List ℕ) : Type 0 where
  pub ascending : IsStrictlyIncreasing numbers
  pub below : All (λ k. k < length segments) numbers
  pub complete : (k : ℕ) (s : Seg) (c : Pt) → slice_get segments k ≡ Some s → Meets s c → Owned c → Contains numbers k

-- pixels are the hot pixels that are owned, ascending and each once
pub record AreOwnedHot (Owned : Pt → Type 0) (segments : List Seg) (pixels : List Pt) : Type 0 where
  pub ascending : AllPairs IsBefore pixels
  pub exact : (c : Pt) → Contains pixels c ↔ (IsHot segments c × Owned c)
