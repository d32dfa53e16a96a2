-- The refusals of columns (own), in their order: points that aren't whole, offsets that fall or pass the end, a point outside the
-- coordinate limit, a ring at fault. Of points and rings only those that the features reach are looked at.
use Rattle.std.specs.Prelude.{◌≡◌, ℕ, ◌+◌, ◌-◌, ◌%◌, Bool, ◌||◌, ◌==◌, nat_lt, if◌then◌else◌, List, [], ◌∷◌, length, get_or, option_map, unsigned_abs, Option, Some, None}
use Rattle.geom.specs.declared.point.Pt.{Pt}
use Rattle.geom.specs.Limit.{coordinate_limit}
use Rattle.wkt.specs.Refusals.{is_closed}
use Rattle.columns.specs.declared.layout.Points.{Points}
use Rattle.columns.specs.declared.layout.Points.TheVariants.{Interleaved, Separate}
use Rattle.columns.specs.declared.layout.Columns.{Columns}
use Rattle.columns.specs.declared.fault.ColumnsFault.{ColumnsFault}
use Rattle.columns.specs.declared.fault.ColumnsFault.TheVariants.{PointRange, RingShort, RingOpen, PointsUneven, FeatureOffset, PolygonOffset, RingOffset}
use Rattle.columns.specs.Layout.{joined, points_of, rings_in}

-- the first of two, if there is one, or the second
abbrev pub or_else : {X : Type 0} → Option X → Option X → Option X
or_else None other = other
or_else (Some x) other = Some x

-- ---- points

-- each x has its y
abbrev pub are_whole : Points → Bool
are_whole (Interleaved coordinates) = length coordinates.now % 2 == 0
are_whole (Separate x y) = length x.now == length y.now

abbrev pub points_fault : Points → Option ColumnsFault
points_fault points = if are_whole points then None else Some PointsUneven

abbrev pub is_outside : Pt → Bool
is_outside p = nat_lt coordinate_limit (unsigned_abs p.x) || nat_lt coordinate_limit (unsigned_abs p.y)

-- of points numbered from k on, the first one outside the coordinate limit
abbrev pub first_outside : ℕ → List Pt → Option ℕ
first_outside k [] = None
first_outside k (p ∷ ps) = if is_outside p then Some k else first_outside (k + 1) ps

-- ---- offsets

-- how many lists offsets cut
abbrev pub list_count : List ℕ → ℕ
list_count offsets = length offsets - 1

-- of offsets numbered from k on, the first one below the one before it, or beyond so many items
abbrev pub wrong_from : ℕ → ℕ → ℕ → List ℕ → Option ℕ
wrong_from count k before [] = None
wrong_from count k before (o ∷ os) = if nat_lt o before || nat_lt count o then Some k else wrong_from count (k + 1) o os

abbrev pub first_wrong : ℕ → List ℕ → Option ℕ
first_wrong count offsets = wrong_from count 0 0 offsets

abbrev pub features_fault : Columns → Option ColumnsFault
features_fault c = option_map (λ at. FeatureOffset at) (first_wrong (list_count c.polygons.now) c.features.now)

abbrev pub polygons_fault : Columns → Option ColumnsFault
polygons_fault c = option_map (λ at. PolygonOffset at) (first_wrong (list_count c.rings.now) c.polygons.now)

abbrev pub rings_fault : Columns → Option ColumnsFault
rings_fault c = option_map (λ at. RingOffset at) (first_wrong (length (points_of c.points)) c.rings.now)

-- ---- what the features reach

-- the number of the first ring, where there is one
abbrev pub first_ring : Columns → ℕ
first_ring c = get_or c.polygons.now (get_or c.features.now 0 0) 0

-- the number of its first point
abbrev pub first_point : Columns → ℕ
first_point c = get_or c.rings.now (first_ring c) 0

abbrev pub range_fault : Columns → Option ColumnsFault
range_fault c = option_map (λ at. PointRange at) (first_outside (first_point c) (joined (rings_in c)))

-- what is wrong with the ring of this number: too few points goes before open
abbrev pub ring_fault : ℕ → List Pt → Option ColumnsFault
ring_fault k ring = if nat_lt (length ring) 4 then Some (RingShort k) else (if is_closed ring then None else Some (RingOpen k))

-- of rings numbered from k on, the fault of the first one that has one
abbrev pub first_ring_fault : ℕ → List (List Pt) → Option ColumnsFault
first_ring_fault k [] = None
first_ring_fault k (r ∷ rs) = or_else (ring_fault k r) (first_ring_fault (k + 1) rs)

-- ---- columns

-- what the columns are refused for, if anything
abbrev pub fault_of : Columns → Option ColumnsFault
fault_of c =
    or_else (points_fault c.points)
    (or_else (features_fault c) (or_else (polygons_fault c) (or_else (rings_fault c) (or_else (range_fault c) (first_ring_fault (first_ring c) (rings_in c))))))

abbrev pub AreAccepted : Columns → Type 0
AreAccepted c = fault_of c ≡ None

abbrev pub AreRefused : Columns → ColumnsFault → Type 0
AreRefused c fault = fault_of c ≡ Some fault
