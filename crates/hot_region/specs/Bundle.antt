-- Bundles: lines that run side by side between two borders (own).
use Rattle.std.specs.Prelude.{◌≡◌, ◌⊎◌, ◌^◌, ◌<ℤ◌, ◌≤ℤ◌, ℤ, pos, ◌+ℤ◌, ◌-ℤ◌, ◌*ℤ◌, List, [], ◌∷◌}
use Rattle.geom.specs.declared.point.Pt.{Pt}
use Rattle.geom.specs.declared.edge.Edge.{Edge}
use Rattle.geom.specs.Limit.{AreInLimit}
use Rattle.geom.specs.Determinant.{determinant}
use Rattle.hot_region.specs.declared.lines.Line.{Line}
use Rattle.hot_region.specs.declared.bundle.Course.{Course}
use Rattle.hot_region.specs.declared.bundle.Course.TheVariants.{Columns, Rows}
use Rattle.hot_region.specs.declared.bundle.Strand.{Strand}
use Rattle.hot_region.specs.Halving.{IsHotFor}

-- the point with x and y exchanged
abbrev pub exchanged : Pt → Pt
exchanged p = record { x = p.y; y = p.x }

-- the point as it is seen along the course
abbrev pub seen_point : Course → Pt → Pt
seen_point Columns p = p
seen_point Rows p = exchanged p

-- f is e as it is seen along the course
abbrev pub IsSeen : Course → Edge → Edge → Type 0
IsSeen Columns e f = e ≡ f
IsSeen Rows e f = ((f.p ≡ exchanged e.p) × (f.q ≡ exchanged e.q)) ⊎ ((f.p ≡ exchanged e.q) × (f.q ≡ exchanged e.p))

-- e runs through the columns from low to high and has no end there
pub record RunsThrough (low high : ℤ) (e : Edge) : Type 0 where
  pub from : e.p.x <ℤ low
  pub to : high <ℤ e.q.x

-- and so does e as it is seen along the course
abbrev pub RunsThroughSeen : Course → ℤ → ℤ → Edge → Type 0
RunsThroughSeen course low high e = (f : Edge) → IsSeen course e f → RunsThrough low high f

-- twice the height of the line of e over border / 2, times its run
abbrev pub height : Edge → ℤ → ℤ
height e border = determinant (e.q.x -ℤ e.p.x) (e.q.y -ℤ e.p.y) ((e.p.x +ℤ e.p.x) -ℤ border) (e.p.y +ℤ e.p.y)

-- q is number / divisor, rounded down
pub record IsQuotient (number divisor q : ℤ) : Type 0 where
  pub from : (divisor *ℤ q) ≤ℤ number
  pub below : number <ℤ (divisor *ℤ (q +ℤ pos 1))

-- k is the number of parts in height / run, rounded down
abbrev pub IsFloor : ℤ → ℤ → ℤ → Type 0
IsFloor height run k = IsQuotient (height *ℤ pos (2 ^ 60)) run k

-- s has the heights of e where the columns from low to high begin and end
pub record IsStrand (low high : ℤ) (e : Edge) (s : Strand) : Type 0 where
  pub within : AreInLimit e.p e.q
  pub through : RunsThrough low high e
  pub left : IsFloor (height e ((low +ℤ low) -ℤ pos 1)) (e.q.x -ℤ e.p.x) s.left
  pub right : IsFloor (height e ((high +ℤ high) +ℤ pos 1)) (e.q.x -ℤ e.p.x) s.right

-- s is less than t at both borders
pub record AscendsTo (s t : Strand) : Type 0 where
  pub left : s.left <ℤ t.left
  pub right : s.right <ℤ t.right

-- s and t are equal at both borders
pub record IsSame (s t : Strand) : Type 0 where
  pub left : s.left ≡ t.left
  pub right : s.right ≡ t.right

-- t is greater than s at both borders, or equal to it
abbrev pub IsFollowedBy : Strand → Strand → Type 0
IsFollowedBy s t = AscendsTo s t ⊎ IsSame s t

-- s is the strand of e as it is seen along the course
abbrev pub IsStrandSeen : Course → ℤ → ℤ → Edge → Strand → Type 0
IsStrandSeen course low high e s = (f : Edge) × IsSeen course e f × IsStrand low high f s

-- the strand of each line, in their order
abbrev pub AreStrands : Course → ℤ → ℤ → List Line → List Strand → Type 0
AreStrands course low high [] [] = Unit {0}
AreStrands course low high [] (s ∷ ss) = ⊥
AreStrands course low high (l ∷ ls) [] = ⊥
AreStrands course low high (l ∷ ls) (s ∷ ss) = IsStrandSeen course low high l.edge s × AreStrands course low high ls ss

-- no pixel between the borders is hot for the lines
abbrev pub HasNoHot : Course → ℤ → ℤ → List Edge → Type 0
HasNoHot course low high lines = (c : Pt) → low ≤ℤ (seen_point course c).x → (seen_point course c).x ≤ℤ high → IsHotFor lines c → ⊥
