use Rattle.std.proofs.Common.{arith}
use Rattle.std.proofs.lemmas.Int.{to_z-of_z}
use Rattle.geom.proofs.rect.Rect.with.Goals as goal

pub returns-clause-left : goal.returns-clause-left
returns-clause-left c = grind (arith, to_z-of_z, c.min.ensures.value)

pub returns-clause-below : goal.returns-clause-below
returns-clause-below c = grind (arith, to_z-of_z, c.min-2.ensures.value)

pub returns-clause-right : goal.returns-clause-right
returns-clause-right c = grind (arith, to_z-of_z, c.max.ensures.value)

pub returns-clause-above : goal.returns-clause-above
returns-clause-above c = grind (arith, to_z-of_z, c.max-2.ensures.value)
