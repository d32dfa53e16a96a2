-- Boxes as pairs of corners.
use Rattle.std.specs.Prelude.{FitsSigned, ◌≤ℤ◌, suc, ℕ, List, [], ◌∷◌, get_or}
use Rattle.std.specs.Int.{w32}
use Rattle.geom.specs.declared.rect.Rect.{Rect}
use Rattle.lane_tests.specs.Columns.{Ends, nowhere}

-- the pairs are lower left and upper right corners
pub record AreRects (pairs : List Ends) : Type 0 where
  pub wide : (k : ℕ) → (get_or pairs k nowhere).0.x ≤ℤ (get_or pairs k nowhere).1.x
  pub high : (k : ℕ) → (get_or pairs k nowhere).0.y ≤ℤ (get_or pairs k nowhere).1.y

abbrev pub rects_of : (pairs : List Ends) → AreRects pairs → List Rect
rects_of [] h = []
rects_of (e ∷ es) h = record { lo = e.0; hi = e.1; wide = h.wide 0; high = h.high 0 } ∷ rects_of es (record { wide = λ k. h.wide (suc k); high = λ k. h.high (suc k) })

-- the sides of a box are 32-bit numbers
pub record AreSmall (r : Rect) : Type 0 where
  pub left : FitsSigned w32 r.lo.x
  pub bottom : FitsSigned w32 r.lo.y
  pub right : FitsSigned w32 r.hi.x
  pub top : FitsSigned w32 r.hi.y
