-- Written rings in groups: each shell with the holes that come after it.
use Rattle.std.specs.Prelude.{◌≡◌, Bool, true, false, List, [], ◌∷◌, All, flat_map, map}
use Rattle.geom.specs.declared.point.Pt.{Pt}
use Rattle.geom.specs.Canonical.{Shape}

-- a shell and its holes
pub record Group (W : Type 0) : Type 0 where
  pub shell : W
  pub holes : List W

-- all rings of the groups, in their order
abbrev pub members : {W : Type 0} → List (Group W) → List W
members groups = flat_map (λ g. g.shell ∷ g.holes) groups

-- the polygon of a group
abbrev pub shape_of : {W : Type 0} → (W → List Pt) → Group W → Shape
shape_of points group = record { shell = points group.shell; holes = map points group.holes }

-- no hole comes first
abbrev pub BeginsWithShell : {W : Type 0} → (W → Bool) → List W → Type 0
BeginsWithShell is_hole [] = Unit {0}
BeginsWithShell is_hole (w ∷ ws) = is_hole w ≡ false

-- the written rings fall into groups of a shell and then holes, and the shapes are the polygons of the groups
pub record AreGrouped {W : Type 0} (is_hole : W → Bool) (points : W → List Pt) (written : List W) (shapes : List Shape) : Type 0 where
  pub groups : List (Group W)
  pub together : members groups ≡ written
  pub shells : All (λ g. is_hole g.shell ≡ false) groups
  pub holes : All (λ g. All (λ w. is_hole w ≡ true) g.holes) groups
  pub are_shapes : shapes ≡ map (shape_of points) groups
