-- The records of both ends of segments, beside those between the ends (own).
use Rattle.std.specs.Prelude.{◌⊎◌, ◌↔◌, ℕ, ◌+◌, ◌<◌, ◌≤◌, Contains, List, [], ◌∷◌, ◌++◌}
use Rattle.geom.specs.declared.point.Pt.{Pt}
use Rattle.geom.specs.declared.segment.Seg.{Seg}
use Rattle.routing.specs.declared.record.Record.{Record}
use Rattle.routing.specs.Pieces.{IsEndRecord}
use Rattle.routing.specs.Steps.{steps_to}

-- the record at c of s, the segment of this number
abbrev pub record_of : ℕ → Seg → Pt → Record
record_of number s c = record { segment = number; steps = steps_to s c; pixel = c }

-- the records of both ends of each segment, numbered from k on
abbrev pub ends_from : ℕ → List Seg → List Record
ends_from k [] = []
ends_from k (s ∷ ss) = record_of k s s.a ∷ record_of k s s.b ∷ ends_from (k + 1) ss

-- the records of a route: that of the first end, those between the ends, that of the last end
abbrev pub route_of : ℕ → Seg → List Record → List Record
route_of number s inner = record_of number s s.a ∷ (inner ++ record_of number s s.b ∷ [])

-- r tells an end of a segment from the first number on, before the past one
pub record IsEndBetween (segments : List Seg) (first past : ℕ) (r : Record) : Type 0 where
  pub tells : IsEndRecord segments r
  pub from : first ≤ r.segment
  pub to : r.segment < past

-- new has the records of old, and those of both ends of the segments from the first number on, before the past one
pub record AddsEnds (segments : List Seg) (first past : ℕ) (old new : List Record) : Type 0 where
  pub same : (r : Record) → Contains new r ↔ (Contains old r ⊎ IsEndBetween segments first past r)
