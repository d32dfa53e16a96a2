-- Points given with twice the numbers.
use Rattle.std.specs.Prelude.{◌≡◌, pos, ◌*ℤ◌}
use Rattle.geom.specs.Pixel.{Point}

-- w is z with twice the numerators and twice the denominator, so they are one point
pub record IsDouble (z w : Point) : Type 0 where
  pub x_is : w.x ≡ pos 2 *ℤ z.x
  pub y_is : w.y ≡ pos 2 *ℤ z.y
  pub n_is : w.n ≡ pos 2 *ℤ z.n
