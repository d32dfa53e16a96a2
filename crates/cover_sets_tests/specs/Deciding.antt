-- When edges with features are borders, by the edges and their ends (own): what the tests decide before they ask for cover sets.
use Rattle.std.specs.Prelude.{◌≡◌, ◌≢◌, ◌<◌, ◌≤◌, ◌&&◌, ◌||◌, ℕ, Bool, false, List, All, AllPairs, count_by, length, slice_range}
use Rattle.geom.specs.declared.point.Pt.{Pt}
use Rattle.geom.specs.declared.edge.Edge.{Edge}
use Rattle.geom.specs.declared.edge.Counted.{Counted}
use Rattle.geom.specs.Noded.{MeetOnlyAtEnds}
use Rattle.geom.specs.Rounded.{is_odd}
use Rattle.geom.specs.Segments.{same_point}
use Rattle.cover_law.specs.declared.border.Border.{Border}
use Rattle.cover_law.specs.Cover.{bordered, has}

-- the features of an edge stand in the list, and ascend
pub record IsListed (features : List ℕ) (b : Border) : Type 0 where
  pub order : b.from ≤ b.to
  pub within : b.to ≤ length features
  pub ascending : AllPairs (λ f g. f < g) (bordered features b).features

-- two different edges meet only at ends
pub record AreApart (e f : Edge) : Type 0 where
  pub apart : e ≢ f → MeetOnlyAtEnds e f

-- an edge meets all others only at ends
pub record MeetAll (borders : List Border) (e : Edge) : Type 0 where
  pub each : All (λ b. AreApart e b.edge) borders

-- v is an end of the edge
abbrev pub is_end : Pt → Border → Bool
is_end v b = same_point b.edge.p v || same_point b.edge.q v

-- whether an edge is a border of the feature, and v an end of it
abbrev pub ends_at : List ℕ → ℕ → Pt → Border → Bool
ends_at features f v b = has f (slice_range features b.from b.to) && is_end v b

-- both ends of an edge are ends of an even number of borders of the feature
pub record EndsAreEven (features : List ℕ) (f : ℕ) (borders : List Border) (b : Border) : Type 0 where
  pub first : is_odd (count_by (ends_at features f b.edge.p) borders) ≡ false
  pub second : is_odd (count_by (ends_at features f b.edge.q) borders) ≡ false

-- every end is, for this feature
pub record HasEvenEnds (features : List ℕ) (borders : List Border) (f : ℕ) : Type 0 where
  pub each : All (EndsAreEven features f borders) borders

-- an edge that counts in no layer
abbrev pub uncounted : Border → Counted
uncounted b = record { edge = b.edge; in_a = 0; in_b = 0 }
