-- The lines of segments, and where they end (own).
use Rattle.std.specs.Prelude.{◌≡◌, ◌⊎◌, ◌↔◌, Contains, List, [], ◌∷◌}
use Rattle.geom.specs.declared.point.Pt.{Pt}
use Rattle.geom.specs.declared.rect.Rect.{Rect}
use Rattle.geom.specs.declared.segment.Seg.{Seg}
use Rattle.geom.specs.declared.edge.Edge.{Edge}
use Rattle.hot_region.specs.Lines.{IsLine}
use Rattle.hot_region.specs.Rects.{IsIn}

-- the line of each segment, in their order
abbrev pub AreEachLine : List Seg → List Edge → Type 0
AreEachLine [] [] = Unit {0}
AreEachLine [] (e ∷ es) = ⊥
AreEachLine (s ∷ ss) [] = ⊥
AreEachLine (s ∷ ss) (e ∷ es) = IsLine e s × AreEachLine ss es

-- the lines of the segments, and no others
pub record AreLines (segments : List Seg) (lines : List Edge) : Type 0 where
  pub only : (e : Edge) → Contains lines e → (s : Seg) × Contains segments s × IsLine e s
  pub all : (s : Seg) → Contains segments s → (e : Edge) × Contains lines e × IsLine e s

-- found has the ends of the lines that lie in the tile
pub record HasEnds (tile : Rect) (lines : List Edge) (found : List Pt) : Type 0 where
  pub same : (c : Pt) → Contains found c ↔ (((e : Edge) × Contains lines e × ((e.p ≡ c) ⊎ (e.q ≡ c))) × IsIn tile c)
