use Rattle.std.proofs.Common.{ℕ, List, ◌≤◌, map, subst, sym, arith, Bor}
use Rattle.geom.specs.declared.segment.Seg.{Seg}
use Rattle.grid.specs.Tiles.{tile_count}
use Rattle.linking.specs.Gathered.{AreTileNumbers, HaveTiles}
use Rattle.engine.specs.FaceBorders.{AreRoundedBorders}
use Rattle.layers.specs.Segments.{AllInLimit}
use Rattle.engine.proofs.CoveredFeatures.{layers_covered}
use Rattle.engine.proofs.LayersKnown.{layers_ready}
use Rattle.engine.proofs.faces_run.face_borders.Goals as goal

pub rounded_features-requires-clause-workers : goal.rounded_features-requires-clause-workers
rounded_features-requires-clause-workers g c =
    let now = c.args.checked.now in
    let all = c.in_ok-all.ensures in
    let crew = (layers_ready now.limits.segments now.plan (map (λ (t : Bor (List ℕ)). t.now) now.layers.now) now.segments now.grid now.are_checked all.0 all.1).planned.workers in
    λ κs l. (omega (arith, crew.low), crew.high)

pub rounded_features-requires-clause-in_limit : goal.rounded_features-requires-clause-in_limit
rounded_features-requires-clause-in_limit g c = λ κs l. subst AllInLimit (sym c.deref.ensures.value) c.in_ok-all.ensures.2.owned.in_limit

pub rounded_features-requires-clause-covered : goal.rounded_features-requires-clause-covered
rounded_features-requires-clause-covered g c =
    let now = c.args.checked.now in
    let texts : List (List ℕ) = map (λ (t : Bor (List ℕ)). t.now) now.layers.now in
    let all = c.in_ok-all.ensures in
    let made = c.in_ok-all.all in
    let ready = layers_ready now.limits.segments now.plan texts now.segments now.grid now.are_checked all.0 all.1 in
    λ κs l. subst (λ (ss : List Seg). HaveTiles c.args.checked.now.grid ss) (sym c.deref.ensures.value)
    (layers_covered now.limits.segments now.plan texts all.0 now.grid made.segments.items made.owners.items ready all.2.all.are_segments)

pub rounded_features-requires-clause-owners : goal.rounded_features-requires-clause-owners
rounded_features-requires-clause-owners g c = λ κs l. rw (c.deref.ensures.value, c.deref-2.ensures.value) c.in_ok-all.ensures.2.owned.one_each

pub returns : goal.returns
returns g c =
    let all = c.in_ok-all.ensures in
    let made = c.in_ok-all.all in
    let rounded = c.in_ok-rounded.rounded in
    let grid = c.args.checked.now.grid in
    let new = c.in_ok-rounded.ensures in
    record {
      layers = all.0;
      stand = all.1;
      of = record {
        segments = made.segments.items;
        owners = made.owners.items;
        are_segments = all.2.all.are_segments;
        in_limit = all.2.owned.in_limit;
        few = subst (λ (n : ℕ). n ≤ 2147483647) all.2.all.count all.2.owned.few;
        rounded = subst (λ (ss : List Seg). AreRoundedBorders ss made.owners.items rounded) c.deref.ensures.value (subst (λ (os : List ℕ). AreRoundedBorders c.deref.result.now os rounded) c.deref-2.ensures.value new.borders);
        segments_are = all.2.segments_are;
        features_are = all.2.features_are;
        tiles_are = subst (λ (ss : List Seg). AreTileNumbers grid ss (tile_count grid) rounded.tiles.items) c.deref.ensures.value new.tiles;
        remade = new.remade;
      };
    }
