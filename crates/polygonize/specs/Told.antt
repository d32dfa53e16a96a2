-- The rings of polygons one after another, as their text tells them (own).
use Rattle.std.specs.Prelude.{◌≡◌, ℕ, Bool, true, false, List, [], ◌∷◌, All, flat_map, map, slice_index_or}
use Rattle.geom.specs.declared.point.Pt.{Pt}
use Rattle.geom.specs.declared.directed.DirectedEdge.{DirectedEdge}
use Rattle.geom.specs.Canonical.{ArePolygons, HaveEachEdge, Shape, written_rings}
use Rattle.geom.specs.ListOrder.{IsLeastRotation}
use Rattle.polygonize.specs.Placed.{PlacedRing, points, stands_as_hole}
use Rattle.polygonize.specs.Written.{AreSimple}

-- the rings of polygons, each polygon's shell before its holes, and whether each is a hole
abbrev pub told : List Shape → List (Bool × List Pt)
told polygons = flat_map (λ p. (false, p.shell) ∷ map (λ hole. (true, hole)) p.holes) polygons

-- a written ring by its points, and whether it is a hole
abbrev pub ring_told : List DirectedEdge → PlacedRing → Bool × List Pt
ring_told ds w = (stands_as_hole w, points ds w)

-- the ring with a number
abbrev pub told_at : List (Bool × List Pt) → ℕ → Bool × List Pt
told_at rings number = slice_index_or rings number (false, [])

-- the rings are those of the polygons of the directed edges, which have each of these once, none visiting a point twice, each from its
-- least rotation
pub record AreToldRings (directed : List DirectedEdge) (rings : List (Bool × List Pt)) : Type 0 where
  pub polygons : List Shape
  pub are_told : told polygons ≡ rings
  pub are_polygons : ArePolygons directed polygons
  pub each_edge : HaveEachEdge directed polygons
  pub simple : AreSimple (written_rings polygons)
  pub least : All (λ ring. IsLeastRotation ring ring) (written_rings polygons)
