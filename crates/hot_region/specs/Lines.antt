-- Lines: segments without their direction and layer, as edges.
use Rattle.std.specs.Prelude.{◌≡◌, ◌⊎◌, ◌↔◌, Contains, List}
use Rattle.geom.specs.declared.point.Pt.{Pt}
use Rattle.geom.specs.declared.rect.Rect.{Rect}
use Rattle.geom.specs.declared.segment.Seg.{Seg}
use Rattle.geom.specs.declared.edge.Edge.{Edge}
use Rattle.geom.specs.Hot.{CrossIn}
use Rattle.hot_region.specs.Rects.{IsIn}

-- e has the ends of s
abbrev pub IsLine : Edge → Seg → Type 0
IsLine e s = ((e.p ≡ s.a) × (e.q ≡ s.b)) ⊎ ((e.p ≡ s.b) × (e.q ≡ s.a))

-- segments on the two lines cross in c
pub record CrossAt (e f : Edge) (c : Pt) : Type 0 where
  pub cross : (s t : Seg) → IsLine e s → IsLine f t → CrossIn s t c

-- ---- lists of found pixels

-- new has the points of old, and c too where the tile has it
pub record HasPushed (tile : Rect) (c : Pt) (old new : List Pt) : Type 0 where
  pub same : (d : Pt) → Contains new d ↔ (Contains old d ⊎ ((c ≡ d) × IsIn tile d))

-- new has the points of old, and the crossings of e with the lines that lie in the tile
pub record HasCrossed (tile : Rect) (e : Edge) (lines : List Edge) (old new : List Pt) : Type 0 where
  pub kept : (c : Pt) → Contains old c → Contains new c
  pub only : (c : Pt) → Contains new c → Contains old c ⊎ (((f : Edge) × Contains lines f × CrossAt f e c) × IsIn tile c)
  pub all : (f : Edge) (c : Pt) → Contains lines f → CrossAt f e c → IsIn tile c → Contains new c

-- new has the points of old, and the crossings of the lines that lie in the tile
pub record HasAllCrossed (tile : Rect) (lines : List Edge) (old new : List Pt) : Type 0 where
  pub kept : (c : Pt) → Contains old c → Contains new c
  pub only : (c : Pt) → Contains new c → Contains old c ⊎ (((e : Edge) × (f : Edge) × Contains lines e × Contains lines f × CrossAt e f c) × IsIn tile c)
  pub all : (e f : Edge) (c : Pt) → Contains lines e → Contains lines f → CrossAt e f c → IsIn tile c → Contains new c

-- new has the points of old, and the crossings of the first edges with the second ones that lie in the tile
pub record HasBothCrossed (tile : Rect) (first second : List Edge) (old new : List Pt) : Type 0 where
  pub kept : (c : Pt) → Contains old c → Contains new c
  pub only : (c : Pt) → Contains new c → Contains old c ⊎ (((e : Edge) × (f : Edge) × Contains first e × Contains second f × CrossAt f e c) × IsIn tile c)
  pub all : (e f : Edge) (c : Pt) → Contains first e → Contains second f → CrossAt f e c → IsIn tile c → Contains new c
