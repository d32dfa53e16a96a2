use Rattle.std.proofs.Common.{◌≤◌, arith, length, subst}
use Rattle.std.specs.Prelude.{IfSome}
use Rattle.geom.specs.Limit.{AreInLimit}
use Rattle.hot_region.specs.Halving.{AreParts}
use Rattle.hot_region.specs.Walls.{IsInside}
use Rattle.hot_region.proofs.HalvingLaws.{part_all, parts_unite}
use Rattle.routing.proofs.RecordingLaws.{records_unite}
use Rattle.routing.proofs.halved.+halve.Goals as goal

pub halve-requires : goal.halve-requires
halve-requires g t c =
    let first = c.in-Some-2.first in
    let are = c.left_of-left.ensures first.rect first.walls.items c.in_ok-part-in-Some-2.ensures in
    let within = subst (λ o. IfSome o (λ h. AreInLimit h.0.rect.lo h.0.rect.hi)) c.in-Some-2.is c.in_ok-parts.ensures.first_in in
    λ κs h. (
      omega arith,
      (
        h,
        (
          within,
          part_all (λ l. l.past ≤ length c.args.lined.now.table.now) (IsInside first.rect first.walls.items) c.args.lines.now _ are c.requires.lines_past,
        ),
      ),
    )

pub halve-requires-in-Some-2 : goal.halve-requires-in-Some-2
halve-requires-in-Some-2 g t c =
    let second = c.in-Some-2.second in
    let are = c.left_of-left-in-Some-2.ensures second.rect second.walls.items c.in_ok-rest-in-Some-2.ensures in
    let within = subst (λ o. IfSome o (λ h. AreInLimit h.1.rect.lo h.1.rect.hi)) c.in-Some-2.is c.in_ok-parts.ensures.second_in in
    λ κs h. (
      omega arith,
      (
        h,
        (
          within,
          part_all (λ l. l.past ≤ length c.args.lined.now.table.now) (IsInside second.rect second.walls.items) c.args.lines.now _ are c.requires.lines_past,
        ),
      ),
    )

pub returns-in_ok-halve-in-Some-2-2-clause-pixels : goal.returns-in_ok-halve-in-Some-2-2-clause-pixels
returns-in_ok-halve-in-Some-2-2-clause-pixels g t c =
    let region = c.args.region.now in
    let first = c.in-Some-2.first in
    let second = c.in-Some-2.second in
    let parts = subst (λ o. IfSome o (λ h. AreParts (IsInside region.rect region.walls.items) (IsInside h.0.rect h.0.walls.items) (IsInside h.1.rect h.1.walls.items))) c.in-Some-2.is c.in_ok-parts.ensures.parts in
    parts_unite (IsInside region.rect region.walls.items) (IsInside first.rect first.walls.items) (IsInside second.rect second.walls.items) c.args.lines.now _ _ c.args.found.now.pixels.items c.halve.new.found.pixels.items c.halve-in-Some-2.new.found.pixels.items parts
    (c.left_of-left.ensures first.rect first.walls.items c.in_ok-part-in-Some-2.ensures) (c.left_of-left-in-Some-2.ensures second.rect second.walls.items c.in_ok-rest-in-Some-2.ensures) c.in_ok-halve-in-Some-2.ensures.pixels c.in_ok-halve-in-Some-2-2.ensures.pixels

pub returns-in_ok-halve-in-Some-2-2-clause-records : goal.returns-in_ok-halve-in-Some-2-2-clause-records
returns-in_ok-halve-in-Some-2-2-clause-records g t c =
    let region = c.args.region.now in
    let first = c.in-Some-2.first in
    let second = c.in-Some-2.second in
    let parts = subst (λ o. IfSome o (λ h. AreParts (IsInside region.rect region.walls.items) (IsInside h.0.rect h.0.walls.items) (IsInside h.1.rect h.1.walls.items))) c.in-Some-2.is c.in_ok-parts.ensures.parts in
    records_unite c.args.lined.now.segments.now c.args.lined.now.table.now (IsInside region.rect region.walls.items) (IsInside first.rect first.walls.items) (IsInside second.rect second.walls.items) c.args.lines.now _ _ c.args.found.now.records.items c.halve.new.found.records.items c.halve-in-Some-2.new.found.records.items parts
    (c.left_of-left.ensures first.rect first.walls.items c.in_ok-part-in-Some-2.ensures) (c.left_of-left-in-Some-2.ensures second.rect second.walls.items c.in_ok-rest-in-Some-2.ensures) c.in_ok-halve-in-Some-2.ensures.records c.in_ok-halve-in-Some-2-2.ensures.records
