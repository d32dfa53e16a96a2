-- What the writer learns of a ring while it writes it, for the law that its text reads again (own).
use Rattle.std.specs.Prelude.{ℕ, ◌≤◌, List, All, length}
use Rattle.geom.specs.declared.point.Pt.{Pt}
use Rattle.geom.specs.Limit.{IsWithin}

-- the greatest absolute value of a number of 32 bits
abbrev pub number_limit : ℕ
number_limit = 2_147_483_648

pub record IsShort (p : Pt) : Type 0 where
  pub x_in : IsWithin number_limit p.x
  pub y_in : IsWithin number_limit p.y

pub record IsReadable (ring : List Pt) : Type 0 where
  pub enough : 3 ≤ length ring
  pub short : All IsShort ring
