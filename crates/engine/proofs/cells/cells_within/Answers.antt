use Rattle.std.proofs.Common.{Some, subst}
use Rattle.std.specs.Prelude.{Option}
use Rattle.geom.specs.declared.rect.Rect.{Rect}
use Rattle.grid.specs.Tiles.{BoundsHold}
use Rattle.linking.proofs.Covering.{have_tiles}
use Rattle.engine.proofs.cells.cells_within.Goals as goal

pub returns-in-Some : goal.returns-in-Some
returns-in-Some c = λ segments holds covered. have_tiles (Some c.in-Some.bounds) c.grid_of.result segments c.grid_of.ensures (subst (λ (o : Option Rect). BoundsHold o segments) c.in-Some.is holds)
