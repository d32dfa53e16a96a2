use Rattle.std.proofs.Common.{◌≡◌, ℕ, List, ◌∙◌, ◌++◌, ap, flat_map, refl, subst, sym}
use Rattle.std.proofs.Math.Logic.{∥∥₁_map}
use Rattle.std.specs.Prelude.{All, AllPairs}
use Rattle.geom.specs.declared.point.Pt.{Pt}
use Rattle.grid.specs.Tiles.{HasTile, Owns}
use Rattle.routing.specs.declared.record.Record.{Record}
use Rattle.routing.specs.Pieces.{IsPartOf}
use Rattle.linking.specs.Ends.{ends_from}
use Rattle.linking.specs.Links.{AreRecords, HasRecords, times_at}
use Rattle.linking.specs.Numbers.{ArePaired}
use Rattle.linking.specs.Shares.{HasLinked}
use Rattle.linking.proofs.Counted.{all_inner, all_numbers, all_records, known_parts, paired_are, pixels_in, pixels_once}
use Rattle.linking.proofs.Covering.{are_covered}
use Rattle.linking.proofs.Gathering.{gathered_are}
use Rattle.linking.proofs.ShareLaws.{parts_of_all}
use Rattle.linking.proofs.Walk.{route_links}
use Rattle.linking.proofs.made.link_pieces.Goals as goal

pub link_in_parts-requires-clause-inner : goal.link_in_parts-requires-clause-inner
link_in_parts-requires-clause-inner g c = λ κs l.
    let cells = c.args.cells.now in
    let grid = c.args.grid.now in
    let segments = c.args.segments.now in
    let pieces = c.args.pieces.items in
    let all = known_parts cells _ segments _ _ _ _ c.requires.cells c.requires.segments c.requires.one_each (parts_of_all (λ p. p.pixels.items) (λ p. p.records.items) g.T.Tiled.grid g.T.Tiled.segments pieces
    (λ k p at. subst (λ (n : ℕ). ∥ IsPartOf (Owns g.T.Tiled.grid n) g.T.Tiled.segments p.pixels.items p.records.items ∥₁) (c.requires.in_order k p at) p.exact)) in
    let found = flat_map (λ p. p.records.items) pieces in
    let hot = flat_map (λ p. p.pixels.items) pieces in
    let in_cells = are_covered cells segments c.requires.covered_by_cells in
    let in_tiles = are_covered grid segments c.requires.covered in
    rw c.deref.ensures.value (all_inner cells grid segments hot found in_cells in_tiles all)

pub hot_in_parts-requires-clause-tiles : goal.hot_in_parts-requires-clause-tiles
hot_in_parts-requires-clause-tiles g c = λ κs l.
    let cells = c.args.cells.now in
    let grid = c.args.grid.now in
    let segments = c.args.segments.now in
    let pieces = c.args.pieces.items in
    let all = known_parts cells _ segments _ _ _ _ c.requires.cells c.requires.segments c.requires.one_each (parts_of_all (λ p. p.pixels.items) (λ p. p.records.items) g.T.Tiled.grid g.T.Tiled.segments pieces
    (λ k p at. subst (λ (n : ℕ). ∥ IsPartOf (Owns g.T.Tiled.grid n) g.T.Tiled.segments p.pixels.items p.records.items ∥₁) (c.requires.in_order k p at) p.exact)) in
    let found = flat_map (λ p. p.records.items) pieces in
    let hot = flat_map (λ p. p.pixels.items) pieces in
    let in_cells = are_covered cells segments c.requires.covered_by_cells in
    let in_tiles = are_covered grid segments c.requires.covered in
    let same = ap (flat_map (λ p. p.pixels.items)) c.deref-2.ensures.value in
    subst (λ (ps : List Pt). All (λ p. HasTile grid p) ps) (sym same) (pixels_in cells grid segments hot found in_cells in_tiles all)

pub hot_in_parts-requires-clause-once : goal.hot_in_parts-requires-clause-once
hot_in_parts-requires-clause-once g c = λ κs l.
    let cells = c.args.cells.now in
    let grid = c.args.grid.now in
    let segments = c.args.segments.now in
    let pieces = c.args.pieces.items in
    let all = known_parts cells _ segments _ _ _ _ c.requires.cells c.requires.segments c.requires.one_each (parts_of_all (λ p. p.pixels.items) (λ p. p.records.items) g.T.Tiled.grid g.T.Tiled.segments pieces
    (λ k p at. subst (λ (n : ℕ). ∥ IsPartOf (Owns g.T.Tiled.grid n) g.T.Tiled.segments p.pixels.items p.records.items ∥₁) (c.requires.in_order k p at) p.exact)) in
    let found = flat_map (λ p. p.records.items) pieces in
    let hot = flat_map (λ p. p.pixels.items) pieces in
    let in_cells = are_covered cells segments c.requires.covered_by_cells in
    let in_tiles = are_covered grid segments c.requires.covered in
    let same = ap (flat_map (λ p. p.pixels.items)) c.deref-2.ensures.value in
    subst (λ (ps : List Pt). AllPairs (λ p q. p ≡ q → ⊥) ps) (sym same) (pixels_once cells grid segments hot found in_cells in_tiles all)

pub paired-requires : goal.paired-requires
paired-requires g c = rw (c.deref-3.ensures.value, c.deref-4.ensures.value) (c.in_ok-hot.ensures.one_each ∙ sym c.in_ok-found.ensures.linked.counts_are.one_each)

pub returns-clause-links : goal.returns-clause-links
returns-clause-links g c =
    let cells = c.args.cells.now in
    let grid = c.args.grid.now in
    let segments = c.args.segments.now in
    let pieces = c.args.pieces.items in
    let all = known_parts cells _ segments _ _ _ _ c.requires.cells c.requires.segments c.requires.one_each (parts_of_all (λ p. p.pixels.items) (λ p. p.records.items) g.T.Tiled.grid g.T.Tiled.segments pieces
    (λ k p at. subst (λ (n : ℕ). ∥ IsPartOf (Owns g.T.Tiled.grid n) g.T.Tiled.segments p.pixels.items p.records.items ∥₁) (c.requires.in_order k p at) p.exact)) in
    let found = flat_map (λ p. p.records.items) pieces in
    let hot = flat_map (λ p. p.pixels.items) pieces in
    let in_cells = are_covered cells segments c.requires.covered_by_cells in
    let in_tiles = are_covered grid segments c.requires.covered in
    let those = found ++ ends_from 0 segments in
    let linked = subst (λ (rs : List Record). HasLinked grid g.M.MakesLinks.link_of g.M.MakesLinks.times_of c.args.makers.now (rs ++ ends_from 0 segments) (flat_map (λ l. l.items.items) c.in_ok-found.found.links.items) c.in_ok-found.found.records.items) (ap (flat_map (λ p. p.records.items)) c.deref.ensures.value) c.in_ok-found.ensures in
    let order : HasRecords segments those → AreRecords segments linked.records = λ has. gathered_are segments those linked.records has linked.once in
    ∥∥₁_map (all_records cells grid segments hot found in_cells in_tiles all linked.records order) (λ r. route_links g.M.MakesLinks.link_of segments c.args.makers.now linked.records (flat_map (λ l. l.items.items) c.in_ok-found.found.links.items) c.requires.one_for_each r linked.linked.links_are)

pub returns-clause-tiles : goal.returns-clause-tiles
returns-clause-tiles g c =
    let cells = c.args.cells.now in
    let grid = c.args.grid.now in
    let segments = c.args.segments.now in
    let pieces = c.args.pieces.items in
    let all = known_parts cells _ segments _ _ _ _ c.requires.cells c.requires.segments c.requires.one_each (parts_of_all (λ p. p.pixels.items) (λ p. p.records.items) g.T.Tiled.grid g.T.Tiled.segments pieces
    (λ k p at. subst (λ (n : ℕ). ∥ IsPartOf (Owns g.T.Tiled.grid n) g.T.Tiled.segments p.pixels.items p.records.items ∥₁) (c.requires.in_order k p at) p.exact)) in
    let found = flat_map (λ p. p.records.items) pieces in
    let hot = flat_map (λ p. p.pixels.items) pieces in
    let in_cells = are_covered cells segments c.requires.covered_by_cells in
    let in_tiles = are_covered grid segments c.requires.covered in
    let same = ap (flat_map (λ p. p.pixels.items)) c.deref-2.ensures.value in
    let those = found ++ ends_from 0 segments in
    let linked = subst (λ (rs : List Record). HasLinked grid g.M.MakesLinks.link_of g.M.MakesLinks.times_of c.args.makers.now (rs ++ ends_from 0 segments) (flat_map (λ l. l.items.items) c.in_ok-found.found.links.items) c.in_ok-found.found.records.items) (ap (flat_map (λ p. p.records.items)) c.deref.ensures.value) c.in_ok-found.ensures in
    let order : HasRecords segments those → AreRecords segments linked.records = λ has. gathered_are segments those linked.records has linked.once in
    let paired : ArePaired c.in_ok-hot.hot.items c.in_ok-found.found.records.items c.in_ok-tiles.tiles.items = subst (λ (x : List ℕ × List ℕ). ArePaired x.0 x.1 c.in_ok-tiles.tiles.items) (λ i. (c.deref-3.ensures.value i, c.deref-4.ensures.value i)) c.in_ok-tiles.ensures in
    all_numbers cells grid segments hot found in_cells in_tiles all linked.records order g.M.MakesLinks.times_of c.args.makers.now (flat_map (λ p. p.pixels.items) c.deref-2.result.now) linked.records c.in_ok-tiles.tiles.items same refl
    (paired_are grid (flat_map (λ p. p.pixels.items) c.deref-2.result.now) (λ r. times_at g.M.MakesLinks.times_of c.args.makers.now r.segment) linked.records c.in_ok-hot.hot.items c.in_ok-found.found.records.items c.in_ok-tiles.tiles.items c.in_ok-hot.ensures linked.linked.counts_are paired)
