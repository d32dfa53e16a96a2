-- The neighbouring points round a ring are the steps of its segments.
use Rattle.std.proofs.Common.{◌≡◌, List, [], ◌∷◌, ◌++◌, refl, ap}
use Rattle.geom.specs.declared.point.Pt.{Pt}
use Rattle.geom.specs.Segments.{neighbours, ring_steps}
use Rattle.geom.specs.Rings.{along, around}

along_steps : (x : Pt) (ys : List Pt) (z : Pt) → along (λ p q. (p, q)) x ys z ≡ neighbours (x ∷ ys ++ z ∷ [])
along_steps x [] z = refl
along_steps x (y ∷ ys) z = ap (λ t. (x, y) ∷ t) (along_steps y ys z)

pub around_steps : (ring : List Pt) → around (λ p q. (p, q)) ring ≡ ring_steps ring
around_steps [] = refl
around_steps (x ∷ xs) = along_steps x xs x
