-- Which rings and points the features of columns reach, for the walks over them.
use Rattle.std.specs.Prelude.{◌≡◌, ℕ, zero, suc, ◌-◌, ◌≤◌, ◌<◌, true, List, [], ◌∷◌, Option, Some, None, get_or, length, slice_range}
use Rattle.std.specs.List.{AllByRecursion}
use Rattle.geom.specs.declared.point.Pt.{Pt}
use Rattle.geom.specs.declared.rect.Rect.{Rect}
use Rattle.geom.specs.Box.{IsInBox}
use Rattle.geom.specs.Limit.{InLimit}
use Rattle.wkt.specs.Refusals.{is_closed}
use Rattle.wkt.specs.Surveying.{corners, grown}
use Rattle.columns.specs.declared.layout.Columns.{Columns}
use Rattle.columns.specs.declared.reach.RingRange.{RingRange}
use Rattle.columns.specs.Layout.{points_of}
use Rattle.columns.specs.Refusals.{features_fault, first_ring, list_count, points_fault, polygons_fault, rings_fault}

-- the number of the first ring of the feature with this number, and so of the one behind the feature before
abbrev pub first_ring_of : Columns → ℕ → ℕ
first_ring_of c feature = get_or c.polygons.now (get_or c.features.now feature 0) 0

-- the number of the ring behind the last one that the features reach
abbrev pub past_ring : Columns → ℕ
past_ring c = first_ring_of c (list_count c.features.now)

-- the number of a ring's first point
abbrev pub first_point_of : Columns → ℕ → ℕ
first_point_of c ring = get_or c.rings.now ring 0

-- the ring with this number, as it is written
abbrev pub ring_at : Columns → ℕ → List Pt
ring_at c ring = slice_range (points_of c.points) (first_point_of c ring) (first_point_of c (suc ring))

-- n of the lists that offsets cut, from the one numbered k on
abbrev pub cut_from : {X : Type 0} → List ℕ → List X → ℕ → ℕ → List (List X)
cut_from offsets items k zero = []
cut_from offsets items k (suc n) = slice_range items (get_or offsets k 0) (get_or offsets (suc k) 0) ∷ cut_from offsets items (suc k) n

-- the rings with numbers from one to another
abbrev pub rings_between : Columns → ℕ → ℕ → List (List Pt)
rings_between c first past = cut_from c.rings.now (points_of c.points) first (past - first)

-- the points are whole, and no offset falls or passes the end
pub record AreCutWell (c : Columns) : Type 0 where
  pub points : points_fault c.points ≡ None
  pub features : features_fault c ≡ None
  pub polygons : polygons_fault c ≡ None
  pub rings : rings_fault c ≡ None

pub record IsSoundRing (ring : List Pt) : Type 0 where
  pub enough : 4 ≤ length ring
  pub closed : is_closed ring ≡ true
  pub inside : AllByRecursion InLimit ring

-- the range has the rings that the features reach
pub record AreReached (c : Columns) (r : RingRange) : Type 0 where
  pub first : r.first ≡ first_ring c
  pub past : r.past ≡ past_ring c

-- the rings with numbers from one to another are sound
abbrev pub AreSoundRings : Columns → ℕ → ℕ → Type 0
AreSoundRings c first past = (ring : ℕ) → first ≤ ring → ring < past → IsSoundRing (ring_at c ring)

-- r holds the points, and lies in each rectangle that does
pub record IsPointBox (points : List Pt) (r : Rect) : Type 0 where
  pub holds : AllByRecursion (IsInBox r.lo r.hi) points
  pub least : (q : Rect) → AllByRecursion (IsInBox q.lo q.hi) points → IsInBox q.lo q.hi r.lo × IsInBox q.lo q.hi r.hi

-- the box of both, where there is one before
abbrev pub IsBoxOfBoth : Option Rect → Rect → Rect → Type 0
IsBoxOfBoth None r s = s ≡ r
IsBoxOfBoth (Some q) r s = corners s ≡ grown (grown (corners q) r.lo) r.hi
