-- Rectangles of the same corners are the same.
use Rattle.std.proofs.Common.{◌≡◌, ℤ}
use Rattle.std.proofs.Math.Path.{path_j}
use Rattle.std.proofs.Props.{props}
use Rattle.std.specs.Prelude.{◌≤ℤ◌}
use Rattle.geom.specs.declared.point.Pt.{Pt}
use Rattle.geom.specs.declared.rect.Rect.{Rect}

le-prop : (a b : ℤ) → IsProp (a ≤ℤ b)
le-prop a b = hlevel props

abbrev rect : (lo hi : Pt) → lo.x ≤ℤ hi.x → lo.y ≤ℤ hi.y → Rect
rect lo hi w u = record { lo = lo; hi = hi; wide = w; high = u }

pub same_rect : (r s : Rect) → r.lo ≡ s.lo → r.hi ≡ s.hi → r ≡ s
same_rect r s h k = path_j (λ (lo : Pt) _. (hi : Pt) → r.hi ≡ hi → (w : lo.x ≤ℤ hi.x) (u : lo.y ≤ℤ hi.y) → r ≡ rect lo hi w u)
    (λ hi k. path_j (λ (hi : Pt) _. (w : r.lo.x ≤ℤ hi.x) (u : r.lo.y ≤ℤ hi.y) → r ≡ rect r.lo hi w u)
    (λ w u i. rect r.lo r.hi (le-prop r.lo.x r.hi.x r.wide w i) (le-prop r.lo.y r.hi.y r.high u i)) k) h s.hi k s.wide s.high
