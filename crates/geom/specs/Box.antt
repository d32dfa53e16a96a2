-- Closed boxes of the grid's axes, by their least and greatest corners (own).
use Rattle.std.specs.Prelude.{◌≤ℤ◌, ◌*ℤ◌}
use Rattle.std.specs.Int.{int_min, int_max}
use Rattle.geom.specs.declared.point.Pt.{Pt}
use Rattle.geom.specs.Pixel.{Point}

-- the point p of the grid lies in the box, its border included
pub record IsInBox (lo hi p : Pt) : Type 0 where
  pub left : lo.x ≤ℤ p.x
  pub right : p.x ≤ℤ hi.x
  pub bottom : lo.y ≤ℤ p.y
  pub top : p.y ≤ℤ hi.y

-- the point z of the plane lies in the box, its border included
pub record LiesInBox (lo hi : Pt) (z : Point) : Type 0 where
  pub left : (z.n *ℤ lo.x) ≤ℤ z.x
  pub right : z.x ≤ℤ (z.n *ℤ hi.x)
  pub bottom : (z.n *ℤ lo.y) ≤ℤ z.y
  pub top : z.y ≤ℤ (z.n *ℤ hi.y)

-- some point of the plane lies in both boxes
abbrev pub ShareAPoint : Pt → Pt → Pt → Pt → Type 0
ShareAPoint lo hi lo' hi' = (z : Point) × LiesInBox lo hi z × LiesInBox lo' hi' z

-- the corners of the least box that has the points a and b
abbrev pub least_corner : Pt → Pt → Pt
least_corner a b = record { x = int_min a.x b.x; y = int_min a.y b.y }

abbrev pub greatest_corner : Pt → Pt → Pt
greatest_corner a b = record { x = int_max a.x b.x; y = int_max a.y b.y }
