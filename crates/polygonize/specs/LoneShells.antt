-- Directed edges whose rings are all shells, and visit no vertex twice.
use Rattle.std.specs.Prelude.{◌≡◌, ℕ, List, [], All, map}
use Rattle.geom.specs.declared.point.Pt.{Pt}
use Rattle.geom.specs.declared.directed.DirectedEdge.{DirectedEdge}
use Rattle.geom.specs.Canonical.{Shape}
use Rattle.geom.specs.Holes.{IsShell}
use Rattle.geom.specs.Rings.{AreRings}
use Rattle.polygonize.specs.Next.{ring_of, rings_of}
use Rattle.polygonize.specs.Written.{IsCanonical}

-- the polygon of a shell alone
abbrev pub without_holes : List Pt → Shape
without_holes ring = record { shell = ring; holes = [] }

-- the polygon of a ring that is a shell, visits no vertex twice, and begins at its least one
pub record IsLoneShell (ds : List DirectedEdge) (ring : List ℕ) (polygon : Shape) : Type 0 where
  pub is_polygon : polygon ≡ without_holes (ring_of ds ring)
  pub canonical : IsCanonical ds ring
  pub shell : IsShell (ring_of ds ring)

-- the rings are all that the edges have; each is a shell, visits no vertex twice, begins at its least one, and is a polygon
pub record AreLoneShells (ds : List DirectedEdge) (polygons : List Shape) : Type 0 where
  pub numbers : List (List ℕ)
  pub are_polygons : polygons ≡ map without_holes (rings_of ds numbers)
  pub canonical : All (IsCanonical ds) numbers
  pub shells : All (λ r. IsShell (ring_of ds r)) numbers
  pub are_rings : AreRings ds (rings_of ds numbers)
