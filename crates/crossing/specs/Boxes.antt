-- When the closed boxes of two segments have something in common, by whole numbers (own).
use Rattle.std.specs.Prelude.{ℤ, Bool, ◌&&◌, int_le}
use Rattle.std.specs.Int.{int_min, int_max}
use Rattle.geom.specs.declared.segment.Seg.{Seg}

-- the numbers between a and b and those between c and d have one in common
unfoldable pub spans_meet : ℤ → ℤ → ℤ → ℤ → Bool
spans_meet a b c d = int_le (int_min a b) (int_max c d) && int_le (int_min c d) (int_max a b)

-- the closed boxes of s and t have a point in common
abbrev pub boxes_meet : Seg → Seg → Bool
boxes_meet s t = spans_meet s.a.x s.b.x t.a.x t.b.x && spans_meet s.a.y s.b.y t.a.y t.b.y
