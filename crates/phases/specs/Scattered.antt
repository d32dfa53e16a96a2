-- The lines of segments, strip by strip (own).
use Rattle.std.specs.Prelude.{◌≡◌, ◌<◌, ◌+◌, ◌++◌, ◌∷◌, [], ℕ, ℤ, List, get_or, length, map}
use Rattle.std.specs.declared.vec.Vec.{Vec}
use Rattle.strips_law.specs.declared.line.Line.{Line}
use Rattle.strips_law.specs.Strips.{lines_in}

abbrev pub lists_of : {A : Type 0} → List (Vec Line A) → List (List Line)
lists_of lists = map (λ v. v.items) lists

-- a list for each strip, of the lines that reach it
pub record AreByStrip (cuts : List ℤ) (lines : List Line) (lists : List (List Line)) : Type 0 where
  pub one_each : length lists ≡ length cuts + 1
  pub each : (strip : ℕ) → strip < length lists → get_or lists strip [] ≡ lines_in cuts strip lines

-- the line stands at the end of the lists of the strips that it reaches, and the others are as they were
pub record AddsLine (cuts : List ℤ) (line : Line) (old new : List (List Line)) : Type 0 where
  pub same : length new ≡ length old
  pub each : (strip : ℕ) → strip < length old → get_or new strip [] ≡ get_or old strip [] ++ lines_in cuts strip (line ∷ [])
