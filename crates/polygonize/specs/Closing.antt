-- Whether directed edges close, vertex by vertex.
use Rattle.std.specs.Prelude.{◌+◌, ◌≡◌, ◌≢◌, ◌⊎◌, ℕ, ◌<◌, ◌≤◌, Bool, true, false, cond, nat_lt, List, All, AllPairs, Contains, IsSortedBy, MatchOption, Option, Some, None, length, slice_index_or}
use Rattle.geom.specs.declared.point.Pt.{Pt}
use Rattle.geom.specs.declared.directed.DirectedEdge.{DirectedEdge}
use Rattle.geom.specs.Directed.{IsDirectedBefore, from_to}
use Rattle.geom.specs.Rings.{Closes, IsNeighbour, IsNext, IsSooner}
use Rattle.polygonize.specs.declared.closing.EdgeEnd.{EdgeEnd}
use Rattle.polygonize.specs.Leaving.{leaves_sooner}
use Rattle.polygonize.specs.Next.{edge_at}

-- At v the edges close: none runs both ways, no two neighbours lie in one direction, and at the end of each edge that arrives the first
-- neighbour met is reached by one that leaves.
pub record ClosesAt (directed : List DirectedEdge) (v : Pt) : Type 0 where
  pub one_way : (u : Pt) → Contains directed (from_to u v) → ¬ (Contains directed (from_to v u))
  pub spread : (a b : Pt) → IsNeighbour directed v a → IsNeighbour directed v b → a ≢ b → IsSooner v a b ⊎ IsSooner v b a
  pub turns : (u : Pt) → Contains directed (from_to u v) → (w : Pt) × Contains directed (from_to v w) × IsNext directed u v w

-- they do at both ends of the edge
pub record ClosesAtEnds (directed : List DirectedEdge) (d : DirectedEdge) : Type 0 where
  pub start : ClosesAt directed d.from
  pub stop : ClosesAt directed d.to

-- the edge at the place is the first one with an end where they don't
pub record IsFirstOpen (directed : List DirectedEdge) (place : ℕ) : Type 0 where
  pub inside : place < length directed
  pub before : (k : ℕ) → k < place → ClosesAtEnds directed (edge_at directed k)
  pub not_closed : ¬ (ClosesAtEnds directed (edge_at directed place))

-- ---- the ends of edges

-- clockwise round the vertex of both, or by their vertices
abbrev pub is_sooner_end : EdgeEnd → EdgeEnd → Bool
is_sooner_end s t = leaves_sooner s.way t.way

-- the end that the edge with this place leaves
pub record IsStarting (d : DirectedEdge) (place : ℕ) (e : EdgeEnd) : Type 0 where
  pub at_is : e.way.at ≡ d.from
  pub end_is : e.way.end ≡ d.to
  pub place_is : e.way.place ≡ place
  pub leaves_is : e.leaves ≡ true

-- the end at which it arrives
pub record IsArriving (d : DirectedEdge) (place : ℕ) (e : EdgeEnd) : Type 0 where
  pub at_is : e.way.at ≡ d.to
  pub end_is : e.way.end ≡ d.from
  pub place_is : e.way.place ≡ place
  pub leaves_is : e.leaves ≡ false

-- an end of the edge at its place
abbrev pub IsEndOf : List DirectedEdge → EdgeEnd → Type 0
IsEndOf ds e = IsStarting (edge_at ds e.way.place) e.way.place e ⊎ IsArriving (edge_at ds e.way.place) e.way.place e

-- ends of different edges, or the two ends of one
abbrev pub IsOtherEnd : EdgeEnd → EdgeEnd → Type 0
IsOtherEnd s t = s.way.place ≡ t.way.place → s.leaves ≢ t.leaves

-- both ends of each of the first n edges, each once
pub record AreBothEnds (ds : List DirectedEdge) (n : ℕ) (ends : List EdgeEnd) : Type 0 where
  pub genuine : All (IsEndOf ds) ends
  pub inside : All (λ e. e.way.place < n) ends
  pub starts : (k : ℕ) → k < n → (e : EdgeEnd) × Contains ends e × IsStarting (edge_at ds k) k e
  pub arrives : (k : ℕ) → k < n → (e : EdgeEnd) × Contains ends e × IsArriving (edge_at ds k) k e
  pub once : AllPairs IsOtherEnd ends

-- both ends of each edge, in order
pub record AreSortedEnds (ds : List DirectedEdge) (ends : List EdgeEnd) : Type 0 where
  pub both : AreBothEnds ds (length ds) ends
  pub sorted : IsSortedBy is_sooner_end ends

-- ---- the ends at one vertex

-- the ends from one place to before another one are at one vertex, and the next one is not
pub record IsPastVertex (ends : List EdgeEnd) (from past : ℕ) : Type 0 where
  pub some : from < past
  pub inside : past ≤ length ends
  pub together : (k : ℕ) (d : EdgeEnd) → from ≤ k → k < past → (slice_index_or ends k d).way.at ≡ (slice_index_or ends from d).way.at
  pub other : (d : EdgeEnd) → past < length ends → (slice_index_or ends past d).way.at ≢ (slice_index_or ends from d).way.at

-- the place behind this one, round those from one place to before another one
abbrev pub next_round : ℕ → ℕ → ℕ → ℕ
next_round from past place = cond (nat_lt (place + 1) past) (place + 1) from

-- the end at the place lies in another direction than the one behind it, and where it arrives, the next one round the vertex leaves
pub record GoesOn (ends : List EdgeEnd) (from past place : ℕ) : Type 0 where
  pub apart : (s t : EdgeEnd) → place + 1 < past → is_sooner_end (slice_index_or ends place s) (slice_index_or ends (place + 1) t) ≡ true
  pub turns : (s t : EdgeEnd) → (slice_index_or ends place s).leaves ≡ false → (slice_index_or ends (next_round from past place) t).leaves ≡ true

-- the least place of the edges of these ends
pub record IsLeastPlace (ends : List EdgeEnd) (from past place : ℕ) : Type 0 where
  pub at : (k : ℕ) × (from ≤ k) × (k < past) × ((d : EdgeEnd) → (slice_index_or ends k d).way.place ≡ place)
  pub least : (k : ℕ) (d : EdgeEnd) → from ≤ k → k < past → place ≤ (slice_index_or ends k d).way.place

-- ---- the first edge at which they don't close

-- the lesser place, where one was found before
abbrev pub lesser : Option ℕ → ℕ → Option ℕ
lesser None place = Some place
lesser (Some other) place = cond (nat_lt other place) (Some other) (Some place)

-- the ends tell where edges don't close first, or that they close
abbrev pub IsFound : List EdgeEnd → Option ℕ → Type 0
IsFound ends found = (ds : List DirectedEdge) → AllPairs IsDirectedBefore ds → AreSortedEnds ds ends → MatchOption found (Closes ds) (λ place. IsFirstOpen ds place)
