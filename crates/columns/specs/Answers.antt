-- Polygons as columns (GeoArrow 0.1, MultiPolygon): the shell before the holes, rings closed, points interleaved.
use Rattle.std.specs.Prelude.{◌≡◌, ℕ, ℤ, ◌+◌, List, [], ◌∷◌, length, map}
use Rattle.std.specs.List.{flat_map}
use Rattle.geom.specs.declared.point.Pt.{Pt}
use Rattle.geom.specs.Canonical.{Shape}
use Rattle.wkt.specs.Canonical.{closed}
use Rattle.columns.specs.declared.answer.OwnedColumns.{OwnedColumns}
use Rattle.columns.specs.Layout.{cut, joined, pairs}

-- the rings of a polygon as they are written
abbrev pub closed_rings : Shape → List (List Pt)
closed_rings polygon = map closed (polygon.shell ∷ polygon.holes)

abbrev pub coordinates_of : List Pt → List ℤ
coordinates_of points = flat_map (λ p. p.x ∷ p.y ∷ []) points

-- where each list begins behind k items, and where the last one ends
abbrev pub offsets_from : {X : Type 0} → ℕ → List (List X) → List ℕ
offsets_from k [] = k ∷ []
offsets_from k (list ∷ lists) = k ∷ offsets_from (k + length list) lists

-- the points of the columns are those of these rings, cut into them by their offsets
pub record HaveRings {M : Type 0} (rings : List (List Pt)) (c : OwnedColumns M) : Type 0 where
  pub points : c.coordinates.items ≡ coordinates_of (joined rings)
  pub offsets : c.rings.items ≡ offsets_from 0 rings

-- the columns of these polygons
pub record AreColumnsOf {M : Type 0} (polygons : List Shape) (c : OwnedColumns M) : Type 0 where
  pub have : HaveRings (joined (map closed_rings polygons)) c
  pub offsets : c.polygons.items ≡ offsets_from 0 (map closed_rings polygons)

-- cut by their offsets, the columns are these polygons
abbrev pub ReadBackAs : {M : Type 0} → List Shape → OwnedColumns M → Type 0
ReadBackAs polygons c = cut c.polygons.items (cut c.rings.items (pairs c.coordinates.items)) ≡ map closed_rings polygons
