-- The parity of a point over a list of edges (own): whether the ray upward from it crosses an odd number of them.
use Rattle.std.specs.Prelude.{◌&&◌, Bool, pos, ◌-ℤ◌, ◌*ℤ◌, int_lt, int_le, List, count_by}
use Rattle.geom.specs.declared.edge.Edge.{Edge}
use Rattle.geom.specs.Pixel.{Point}
use Rattle.geom.specs.Determinant.{determinant}
use Rattle.geom.specs.Rounded.{is_odd}

-- z's x is from that of p, inclusive, to that of q, exclusive; so a vertical edge covers nothing
abbrev pub covers : Edge → Point → Bool
covers e z = int_le (z.n *ℤ e.p.x) z.x && int_lt z.x (z.n *ℤ e.q.x)

-- z lies strictly to the right of the line from p to q, so e lies above z where it covers z
abbrev pub lies_above : Edge → Point → Bool
lies_above e z = int_lt (determinant (e.q.x -ℤ e.p.x) (e.q.y -ℤ e.p.y) (z.x -ℤ (z.n *ℤ e.p.x)) (z.y -ℤ (z.n *ℤ e.p.y))) (pos 0)

-- whether the number of edges that lie strictly above z is odd
abbrev pub parity : List Edge → Point → Bool
parity edges z = is_odd (count_by (λ e. covers e z && lies_above e z) edges)
