-- Nearest edges below the point just left of a vertex.
use Rattle.std.proofs.Common.{◌≡◌, List, true, arith}
use Rattle.std.proofs.lemmas.Int.{ints}
use Rattle.std.specs.Prelude.{◌^◌, ◌≤ℤ◌, ◌<ℤ◌, ◌-ℤ◌, ◌*ℤ◌, ℤ, pos, Contains, int_le, int_lt}
use Rattle.geom.specs.declared.point.Pt.{Pt}
use Rattle.geom.specs.declared.edge.Edge.{Edge}
use Rattle.geom.specs.declared.directed.DirectedEdge.{DirectedEdge}
use Rattle.geom.specs.Holes.{IsNearestBelow, left_of}
use Rattle.geom.specs.Parity.{covers}
use Rattle.geom.specs.Pixel.{Point}
use Rattle.geom.proofs.Points.{and_both}
use Rattle.geom.proofs.Tests.{le_told, lt_told}

-- ---- an edge that covers the point just left of v begins left of v, and does not end left of it
begins : (p x : ℤ) → (pos (2 ^ 64) *ℤ p) ≤ℤ ((pos (2 ^ 64) *ℤ x) -ℤ pos 1) → p <ℤ x
begins p x h = omega (arith, ints)

ends : (q x : ℤ) → ((pos (2 ^ 64) *ℤ x) -ℤ pos 1) <ℤ (pos (2 ^ 64) *ℤ q) → x ≤ℤ q
ends q x h = omega (arith, ints)

pub columns : (e : Edge) (v : Pt) → covers e (left_of v) ≡ true → (e.p.x <ℤ v.x) × (v.x ≤ℤ e.q.x)
columns e v c =
    let b = and_both (int_le ((left_of v).n *ℤ e.p.x) (left_of v).x) (int_lt (left_of v).x ((left_of v).n *ℤ e.q.x)) c in (
      begins e.p.x v.x (le_told ((left_of v).n *ℤ e.p.x) (left_of v).x b.0),
      ends e.q.x v.x (lt_told (left_of v).x ((left_of v).n *ℤ e.q.x) b.1),
    )

-- ---- a nearest edge of all that is one of these is a nearest one of these
pub nearest_in_part : (directed these : List DirectedEdge) → ((d : DirectedEdge) → Contains these d → Contains directed d)
    → (z : Point) (d : DirectedEdge) → Contains these d → IsNearestBelow directed z d → IsNearestBelow these z d
nearest_in_part directed these within z d i n = record {
  inside = i;
  edge = n.edge;
  runs = n.runs;
  below = record { edge = d; inside = i; runs = n.runs; over = n.below.over; below = n.below.below };
  nearest = λ f b. n.nearest f (record { edge = b.edge; inside = within b.edge b.inside; runs = b.runs; over = b.over; below = b.below });
}
