-- The order of directions round a vertex, decided by exact comparisons.
use Rattle.std.specs.Prelude.{ℕ, Bool, cond, ◌&&◌, ◌||◌, ◌==◌, nat_lt, pos}
use lib.Signed.{lt_z, le_z}
use Rattle.geom.specs.declared.point.Pt.{Pt}
use Rattle.geom.specs.Determinant.{side}

abbrev pub less : Pt → Pt → Bool
less p q = lt_z p.x q.x || ((le_z p.x q.x && le_z q.x p.x) && lt_z p.y q.y)

-- right of v or straight above it: met in the first half turn from straight up; then the others; v itself last
abbrev pub half : Pt → Pt → ℕ
half v a = cond (less v a) 0 (cond (less a v) 1 2)

-- turning clockwise round v from straight up, a is met before b
abbrev pub sooner : Pt → Pt → Pt → Bool
sooner v a b = nat_lt (half v a) (half v b) || ((half v a == half v b) && lt_z (side v a b) (pos 0))

-- turning clockwise round v from u, a is met before b
abbrev pub met_before : Pt → Pt → Pt → Pt → Bool
met_before v u a b = (sooner v u a && sooner v a b) || ((sooner v a b && sooner v b u) || (sooner v b u && sooner v u a))
