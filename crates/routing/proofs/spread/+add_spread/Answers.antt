use Rattle.std.proofs.Common.{◌≤◌, List, length, subst, sym, arith}
use Rattle.std.specs.Prelude.{All, Contains}
use Rattle.geom.specs.declared.point.Pt.{Pt}
use Rattle.geom.specs.declared.rect.Rect.{Rect}
use Rattle.geom.specs.Limit.{InLimit}
use Rattle.hot_region.specs.Rects.{IsIn}
use Rattle.hot_region.specs.Walls.{IsInside}
use Rattle.hot_region.proofs.HalvingLaws.{part_all}
use Rattle.routing.specs.Recording.{AddsRecordsAt}
use Rattle.routing.proofs.SpreadLaws.{on_ok, spread_unite, spread_whole, those_limited}
use Rattle.routing.proofs.spread.+add_spread.Goals as goal

pub add_records-requires-in-None-clause-lines_past : goal.add_records-requires-in-None-clause-lines_past
add_records-requires-in-None-clause-lines_past g t c =
    let whole = c.open-whole.result in
    part_all (λ l. l.past ≤ length c.args.lined.now.table.now) (IsInside whole.rect whole.walls.items) c.args.lines.now _ (c.left_of-left.ensures whole.rect whole.walls.items c.in_ok-part.ensures) c.requires.lines_past

pub returns-in-None : goal.returns-in-None
returns-in-None g t c =
    let whole = c.open-whole.result in
    let are = c.left_of-left.ensures whole.rect whole.walls.items c.in_ok-part.ensures in
    let in_rect = subst (λ (r : Rect). (p : Pt) → Contains c.args.pixels.now p → IsIn r p) (sym c.open-whole.ensures.rect) c.box_of.ensures.all in
    on_ok c.add_records-in-None.result (spread_whole c.args.lined.now.segments.now c.args.lined.now.table.now whole.rect whole.walls.items c.args.lines.now c.left_of-left.result.now c.args.pixels.now in_rect c.open-whole.ensures.walls are c.args.records.now.items _) c.add_records-in-None.ensures

pub add_spread-requires : goal.add_spread-requires
add_spread-requires g t c =
    let whole = c.open-whole.result in
    let are = c.left_of-left.ensures whole.rect whole.walls.items c.in_ok-part.ensures in
    λ κs h. (
      omega arith,
      (
        h,
        (
          part_all (λ l. l.past ≤ length c.args.lined.now.table.now) (IsInside whole.rect whole.walls.items) c.args.lines.now _ are c.requires.lines_past,
          subst (λ (ps : List Pt). All InLimit ps) (sym c.deref.ensures.value) (those_limited c.in-Some.first c.args.pixels.now c.in_ok-some-in-Some.some.items c.in_ok-some-in-Some.ensures c.requires.pixels_in),
        ),
      ),
    )

pub add_spread-requires-in-Some : goal.add_spread-requires-in-Some
add_spread-requires-in-Some g t c =
    let whole = c.open-whole.result in
    let are = c.left_of-left.ensures whole.rect whole.walls.items c.in_ok-part.ensures in
    λ κs h. (
      omega arith,
      (
        h,
        (
          part_all (λ l. l.past ≤ length c.args.lined.now.table.now) (IsInside whole.rect whole.walls.items) c.args.lines.now _ are c.requires.lines_past,
          subst (λ (ps : List Pt). All InLimit ps) (sym c.deref-in-Some.ensures.value) (those_limited c.in-Some.second c.args.pixels.now c.in_ok-rest-in-Some.rest.items c.in_ok-rest-in-Some.ensures c.requires.pixels_in),
        ),
      ),
    )

pub returns : goal.returns
returns g t c =
    let whole = c.open-whole.result in
    let segments = c.args.lined.now.segments.now in
    let table = c.args.lined.now.table.now in
    let left = c.left_of-left.result.now in
    let are = c.left_of-left.ensures whole.rect whole.walls.items c.in_ok-part.ensures in
    let in_rect = subst (λ (r : Rect). (p : Pt) → Contains c.args.pixels.now p → IsIn r p) (sym c.open-whole.ensures.rect) c.box_of.ensures.all in
    let some = c.in_ok-some-in-Some.some.items in
    let rest = c.in_ok-rest-in-Some.rest.items in
    let old = c.args.records.now.items in
    let mid = c.add_spread.new.records.items in
    let new = c.add_spread-in-Some.new.records.items in
    let h = subst (λ (ps : List Pt). AddsRecordsAt segments table left ps old mid) c.deref.ensures.value c.in_ok-add_spread-in-Some.ensures in
    let k = subst (λ (ps : List Pt). AddsRecordsAt segments table left ps mid new) c.deref-in-Some.ensures.value c.in_ok-add_spread-in-Some-2.ensures in
    spread_unite segments table whole.rect whole.walls.items c.args.lines.now left c.args.pixels.now in_rect c.open-whole.ensures.walls are c.in-Some.first c.in-Some.second some rest old mid new c.in-Some.ensures.0 c.in_ok-some-in-Some.ensures c.in_ok-rest-in-Some.ensures h k
