use Rattle.std.proofs.Common.{ℕ, List, ◌≤◌, subst, sym, arith}
use Rattle.geom.specs.declared.segment.Seg.{Seg}
use Rattle.grid.specs.Tiles.{tile_count}
use Rattle.linking.specs.Gathered.{AreTileNumbers, HaveTiles}
use Rattle.engine.specs.FaceBorders.{AreRoundedBorders}
use Rattle.layers.specs.Segments.{AllInLimit}
use Rattle.engine.specs.Rounds.{IsRemade}
use Rattle.engine.proofs.alone_faces.borders_of_alone.Goals as goal

pub features_alone-requires-clause-in_limit : goal.features_alone-requires-clause-in_limit
features_alone-requires-clause-in_limit g c = subst AllInLimit (sym c.deref.ensures.value) c.requires.owned.in_limit

pub features_alone-requires-clause-covered : goal.features_alone-requires-clause-covered
features_alone-requires-clause-covered g c = subst (λ (ss : List Seg). HaveTiles c.args.grid.now ss) (sym c.deref.ensures.value) c.requires.covered

pub features_alone-requires-clause-owners : goal.features_alone-requires-clause-owners
features_alone-requires-clause-owners g c = rw (c.deref.ensures.value, c.deref-2.ensures.value) c.requires.owned.one_each

pub returns-clause-borders : goal.returns-clause-borders
returns-clause-borders g c = λ layers are.
    let made = c.args.all in
    let rounded = c.in_ok-rounded.rounded in
    let grid = c.args.grid.now in
    let new = c.in_ok-rounded.ensures in
    record {
      segments = made.segments.items;
      owners = made.owners.items;
      are_segments = are.all.are_segments;
      in_limit = c.requires.owned.in_limit;
      few = subst (λ (n : ℕ). n ≤ 2147483647) are.all.count c.requires.owned.few;
      rounded = subst (λ (ss : List Seg). AreRoundedBorders ss made.owners.items rounded) c.deref.ensures.value (subst (λ (os : List ℕ). AreRoundedBorders c.deref.result.now os rounded) c.deref-2.ensures.value new.borders);
      segments_are = are.segments_are;
      features_are = are.features_are;
      tiles_are = subst (λ (ss : List Seg). AreTileNumbers grid ss (tile_count grid) rounded.tiles.items) c.deref.ensures.value new.tiles;
      remade = subst IsRemade (sym new.none_remade) (omega arith);
    }
