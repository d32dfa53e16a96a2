-- Behind the last strip there is nothing.
use Rattle.std.proofs.Common.{◌≡◌, ◌+◌, List, [], ◌∷◌, ◌++◌, true, false, Bool, refl, arith, length}
use Rattle.std.specs.Prelude.{◌≤◌, ℤ, if◌then◌else◌}
use Rattle.geom.specs.declared.point.Pt.{Pt}
use Rattle.geom.specs.declared.segment.Seg.{Seg}
use Rattle.strips_law.specs.declared.line.Line.{Line}
use Rattle.strips_law.specs.Law.{LastStrip}
use Rattle.strips_law.specs.Strips.{IsFrom, at_border, crosses, first_pixel, segments_of, strip_at}
use Rattle.strips_law.proofs.Columns.{crosses_told, within_cuts}
use Rattle.strips_law.proofs.Parts.{RoutesIn, no_part}

-- a list with nothing for each line
abbrev pub empties : List Line → List (List Pt)
empties [] = []
empties (l ∷ ls) = [] ∷ empties ls

no_later : (cuts : List ℤ) (c : Pt) → length cuts + 1 ≤ strip_at cuts c → ⊥
no_later cuts c h = let k = within_cuts cuts c in omega arith

pub none_behind : (cuts : List ℤ) (segments : List Seg) (lines : List Line) → RoutesIn (IsFrom cuts (length cuts + 1)) segments lines (empties lines)
none_behind cuts segments [] = tt
none_behind cuts segments (l ∷ ls) = (no_part (IsFrom cuts (length cuts + 1)) segments l.segment (λ c m i. no_later cuts c i), none_behind cuts segments ls)

none_cross : (cuts : List ℤ) (lines : List Line) → [] ≡ at_border cuts (length cuts + 1) first_pixel lines (empties lines)
none_cross cuts [] = refl
none_cross cuts (l ∷ ls) = at (none_cross cuts ls) (crosses cuts (length cuts + 1) l.segment) refl
  where
    at : [] ≡ at_border cuts (length cuts + 1) first_pixel ls (empties ls) → (t : Bool) → crosses cuts (length cuts + 1) l.segment ≡ t → [] ≡ (if t then first_pixel l [] ∷ [] else []) ++ at_border cuts (length cuts + 1) first_pixel ls (empties ls)
    at rest true e = absurd (no_later cuts l.segment.b (crosses_told cuts (length cuts + 1) l.segment e).1)
    at rest false e = rest

pub last_strip : LastStrip
last_strip cuts lines = record { parts = empties lines; are_parts = none_behind cuts (segments_of lines) lines; carried_is = none_cross cuts lines }
