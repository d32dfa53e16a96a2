-- Of each line the record that is nearest to a border of the records' strip, and the lines that cross a border (own).
use Rattle.std.specs.Prelude.{◌≡◌, ◌≤◌, ◌++◌, ◌∷◌, [], ℕ, ℤ, Contains, List, MatchOption, Option, Some, if◌then◌else◌, length, slice_get}
use Rattle.std.specs.Option.{option_map}
use Rattle.geom.specs.declared.point.Pt.{Pt}
use Rattle.routing.specs.declared.record.Record.{Record}
use Rattle.strips_law.specs.declared.line.Line.{Line}
use Rattle.strips_law.specs.declared.line.Open.{Open}
use Rattle.strips_law.specs.Strips.{crosses}
use Rattle.phases.specs.declared.nearest.Side.{Side}
use Rattle.phases.specs.declared.nearest.Side.TheVariants.{Left, Right}

-- so many steps along a line, that goes to the right, are at least as near to the side as others are
abbrev pub IsAsNear : Side → ℕ → ℕ → Type 0
IsAsNear Left steps others = steps ≤ others
IsAsNear Right steps others = others ≤ steps

-- of the records of the line of this number it is the nearest to the side, or there is none
abbrev pub IsNearest : Side → ℕ → List Record → Option Record → Type 0
IsNearest side number records near = MatchOption near
    ((r : Record) → Contains records r → r.segment ≡ number → ⊥)
    (λ n. Contains records n × (n.segment ≡ number) × ((r : Record) → Contains records r → r.segment ≡ number → IsAsNear side n.steps r.steps))

-- for each of so many lines
pub record AreNearest (side : Side) (count : ℕ) (records : List Record) (nears : List (Option Record)) : Type 0 where
  pub one_each : length nears ≡ count
  pub each : (number : ℕ) (near : Option Record) → slice_get nears number ≡ Some near → IsNearest side number records near

-- the pixel of a record, if there is one
abbrev pub pixel_of : Option Record → Option Pt
pixel_of near = option_map (λ r. r.pixel) near

-- the lines that cross the border on the left of a strip, each with what stands for it
abbrev pub opens_at : List ℤ → ℕ → List Line → List (Option Record) → List Open
opens_at cuts strip [] nears = []
opens_at cuts strip (l ∷ ls) [] = []
opens_at cuts strip (l ∷ ls) (n ∷ ns) = (if crosses cuts strip l.segment then (record { number = l.number; layer = l.segment.layer; near = pixel_of n }) ∷ [] else []) ++ opens_at cuts strip ls ns
