-- The bounds of a layer: the least box that has the ends of all its segments (own).
use Rattle.std.specs.Prelude.{List, Contains}
use Rattle.geom.specs.declared.point.Pt.{Pt}
use Rattle.geom.specs.declared.rect.Rect.{Rect}
use Rattle.geom.specs.Box.{IsInBox}

-- r holds both ends of each step
abbrev pub HoldsSteps : Rect → List (Pt × Pt) → Type 0
HoldsSteps r steps = (s : Pt × Pt) → Contains steps s → IsInBox r.lo r.hi s.0 × IsInBox r.lo r.hi s.1

-- the box of steps: r holds their ends, and lies in each rectangle that does
pub record IsBox (steps : List (Pt × Pt)) (r : Rect) : Type 0 where
  pub holds : HoldsSteps r steps
  pub least : (q : Rect) → HoldsSteps q steps → IsInBox q.lo q.hi r.lo × IsInBox q.lo q.hi r.hi
