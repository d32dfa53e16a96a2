use Rattle.std.proofs.Common.{List, [], subst, sym, ◌↔◌}
use Rattle.std.specs.Prelude.{All, Contains}
use Rattle.geom.specs.declared.point.Pt.{Pt}
use Rattle.geom.specs.declared.rect.Rect.{Rect}
use Rattle.geom.specs.Limit.{InLimit}
use Rattle.hot_region.specs.declared.lines.Line.{Line}
use Rattle.hot_region.specs.declared.wall.Wall.{Wall}
use Rattle.hot_region.specs.Halving.{edges_of, HasHot, HasHotInside}
use Rattle.hot_region.specs.Rects.{IsIn}
use Rattle.hot_region.specs.Walls.{AreKept, IsInside}
use Rattle.hot_region.proofs.WallLaws.{hot_kept, hot_same}
use Rattle.routing.specs.Recording.{AddsRecordsAt}
use Rattle.routing.proofs.RecordingLaws.{records_all, hot_added, hot_within}
use Rattle.routing.proofs.halved.add_found.Goals as goal

hot_here : (rect : Rect) (walls : List Wall) (lines : List Line) (here sorted some : List Pt) → HasHot rect (edges_of lines) [] here → ((c : Pt) → Contains sorted c ↔ Contains here c) → AreKept walls sorted some → HasHotInside (IsInside rect walls) (edges_of lines) [] some
hot_here rect walls lines here sorted some h same k = hot_kept rect walls (edges_of lines) sorted some (hot_same (IsIn rect) (edges_of lines) [] here sorted same h) k

pub kept-requires : goal.kept-requires
kept-requires g c =
    let rect = c.args.region.now.rect in
    hot_within (IsIn rect) c.args.lines.now c.ascending.result.items (hot_same (IsIn rect) (edges_of c.args.lines.now) [] c.args.here.items c.ascending.result.items c.ascending.ensures.same c.requires.here)

pub add_spread-requires-clause-pixels_in : goal.add_spread-requires-clause-pixels_in
add_spread-requires-clause-pixels_in g c =
    let region = c.args.region.now in
    let pixels = c.in_ok-pixels.pixels.items in
    let some = subst (λ (ws : List Wall). AreKept ws c.ascending.result.items pixels) c.deref.ensures.value c.in_ok-pixels.ensures in
    let hot = hot_here region.rect region.walls.items c.args.lines.now c.args.here.items c.ascending.result.items pixels c.requires.here c.ascending.ensures.same some in
    subst (λ (ps : List Pt). All InLimit ps) (sym c.deref-2.ensures.value) (hot_within (IsInside region.rect region.walls.items) c.args.lines.now pixels hot)

pub returns-clause-pixels : goal.returns-clause-pixels
returns-clause-pixels g c =
    let region = c.args.region.now in
    let pixels = c.in_ok-pixels.pixels.items in
    let some = subst (λ (ws : List Wall). AreKept ws c.ascending.result.items pixels) c.deref.ensures.value c.in_ok-pixels.ensures in
    let hot = hot_here region.rect region.walls.items c.args.lines.now c.args.here.items c.ascending.result.items pixels c.requires.here c.ascending.ensures.same some in
    hot_added (IsInside region.rect region.walls.items) c.args.lines.now pixels hot c.args.found.now.pixels.items _ c.in_ok-append.ensures.items

pub returns-clause-records : goal.returns-clause-records
returns-clause-records g c =
    let region = c.args.region.now in
    let pixels = c.in_ok-pixels.pixels.items in
    let some = subst (λ (ws : List Wall). AreKept ws c.ascending.result.items pixels) c.deref.ensures.value c.in_ok-pixels.ensures in
    let hot = hot_here region.rect region.walls.items c.args.lines.now c.args.here.items c.ascending.result.items pixels c.requires.here c.ascending.ensures.same some in
    records_all (IsInside region.rect region.walls.items) c.args.lines.now pixels hot c.args.lined.now.segments.now c.args.lined.now.table.now c.args.found.now.records.items _ (subst (λ (ps : List Pt). AddsRecordsAt c.args.lined.now.segments.now c.args.lined.now.table.now c.args.lines.now ps c.args.found.now.records.items c.add_spread.new.records.items) c.deref-2.ensures.value c.in_ok-add_spread.ensures)
