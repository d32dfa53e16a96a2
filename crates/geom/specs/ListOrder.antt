-- The order of lists of points, and rotations of rings (own).
use Rattle.std.specs.Prelude.{◌≡◌, ◌⊎◌, List, [], ◌∷◌, ◌++◌}
use Rattle.geom.specs.declared.point.Pt.{Pt}
use Rattle.geom.specs.Order.{IsBefore}

-- by the first point in which they differ; a list goes before those that it is the front of
abbrev pub IsListBefore : List Pt → List Pt → Type 0
IsListBefore [] [] = ⊥
IsListBefore [] (q ∷ qs) = Unit {0}
IsListBefore (p ∷ ps) [] = ⊥
IsListBefore (p ∷ ps) (q ∷ qs) = IsBefore p q ⊎ ((p ≡ q) × IsListBefore ps qs)

-- the same ring, begun at another place
pub record IsRotation (ring turned : List Pt) : Type 0 where
  pub front : List Pt
  pub back : List Pt
  pub was : ring ≡ front ++ back
  pub is : turned ≡ back ++ front

-- no way to begin the ring gives a lesser list
pub record IsLeastRotation (ring least : List Pt) : Type 0 where
  pub rotation : IsRotation ring least
  pub none_less : (turned : List Pt) → IsRotation ring turned → ¬ (IsListBefore turned least)
