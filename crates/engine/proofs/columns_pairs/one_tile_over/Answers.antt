use Rattle.std.proofs.Common.{None, Some, subst}
use Rattle.std.specs.Prelude.{Option}
use Rattle.geom.specs.declared.rect.Rect.{Rect}
use Rattle.grid.specs.Tiles.{BoundsHold}
use Rattle.linking.proofs.Covering.{have_tiles}
use Rattle.engine.proofs.columns_pairs.one_tile_over.Goals as goal

pub returns-in-Some : goal.returns-in-Some
returns-in-Some c =
    have_tiles (Some c.in-Some.bounds) c.one_tile.result c.args.segments.now c.one_tile.ensures.covers (subst (λ (o : Option Rect). BoundsHold o c.args.segments.now) c.in-Some.is c.extent_of.ensures.holds)

pub returns-in-None : goal.returns-in-None
returns-in-None c = have_tiles None c.one_tile-in-None.result c.args.segments.now tt (subst (λ (o : Option Rect). BoundsHold o c.args.segments.now) c.in-None.is c.extent_of.ensures.holds)
