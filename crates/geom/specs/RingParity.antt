-- The parity of a point over rings: the even-odd rule, in this project's own statement.
use Rattle.std.specs.Prelude.{◌&&◌, ◌||◌, Bool, pos, ◌-ℤ◌, ◌*ℤ◌, int_lt, int_le, List, count_by, flat_map}
use Rattle.geom.specs.declared.point.Pt.{Pt}
use Rattle.geom.specs.declared.directed.DirectedEdge.{DirectedEdge}
use Rattle.geom.specs.Determinant.{determinant}
use Rattle.geom.specs.Pixel.{Point}
use Rattle.geom.specs.Rings.{ring_edges}
use Rattle.geom.specs.Rounded.{is_odd}

-- z's x is from that of u, inclusive, to that of v, exclusive
abbrev pub spans : Pt → Pt → Point → Bool
spans u v z = int_le (z.n *ℤ u.x) z.x && int_lt z.x (z.n *ℤ v.x)

-- z lies strictly to the right of the line from u to v: below it, where u is further left than v
abbrev pub runs_above : Pt → Pt → Point → Bool
runs_above u v z = int_lt (determinant (v.x -ℤ u.x) (v.y -ℤ u.y) (z.x -ℤ (z.n *ℤ u.x)) (z.y -ℤ (z.n *ℤ u.y))) (pos 0)

-- a side lies strictly above z, whichever of its ends is the one further left; a vertical side covers nothing
abbrev pub side_above : DirectedEdge → Point → Bool
side_above d z = (spans d.from d.to z && runs_above d.from d.to z) || (spans d.to d.from z && runs_above d.to d.from z)

-- whether the ray upward from z crosses an odd number of the sides of the rings: z lies in them by the even-odd rule
abbrev pub ring_parity : List (List Pt) → Point → Bool
ring_parity rings z = is_odd (count_by (λ d. side_above d z) (flat_map ring_edges rings))
