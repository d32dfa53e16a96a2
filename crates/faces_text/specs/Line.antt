-- The parts of a canonical line behind its first ring.
use Rattle.std.specs.Prelude.{ℕ, true, false, List, ◌++◌}
use Rattle.std.specs.List.{flat_map}
use Rattle.geom.specs.declared.point.Pt.{Pt}
use Rattle.geom.specs.Canonical.{Shape}
use Rattle.wkt.specs.Canonical.{next_ring}

-- holes behind another ring of their polygon
abbrev pub holes_text : List (List Pt) → List ℕ
holes_text holes = flat_map (next_ring true) holes

-- polygons behind another one
abbrev pub polygons_text : List Shape → List ℕ
polygons_text polygons = flat_map (λ p. next_ring false p.shell ++ holes_text p.holes) polygons
