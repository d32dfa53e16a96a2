-- Steps along a segment (own).
use Rattle.std.specs.Prelude.{ℕ, ◌+◌, ◌-ℤ◌, unsigned_abs}
use Rattle.geom.specs.declared.point.Pt.{Pt}
use Rattle.geom.specs.declared.segment.Seg.{Seg}

-- the steps along both axes from the start of s to c
abbrev pub steps_to : Seg → Pt → ℕ
steps_to s c = unsigned_abs (c.x -ℤ s.a.x) + unsigned_abs (c.y -ℤ s.a.y)
