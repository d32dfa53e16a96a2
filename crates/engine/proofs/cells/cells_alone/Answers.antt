use Rattle.std.proofs.Common.{Some, subst}
use Rattle.std.specs.Prelude.{Option}
use Rattle.geom.specs.declared.rect.Rect.{Rect}
use Rattle.grid.specs.Tiles.{BoundsHold}
use Rattle.linking.proofs.Covering.{have_tiles}
use Rattle.engine.proofs.cells.cells_alone.Goals as goal

pub returns-in-Some : goal.returns-in-Some
returns-in-Some c = have_tiles (Some c.in-Some.bounds) c.one_cell.result c.args.segments.now c.one_cell.ensures (subst (λ (o : Option Rect). BoundsHold o c.args.segments.now) c.in-Some.is c.bounds_of.ensures.holds)
