use Rattle.std.proofs.Common.{◌<◌, ◌≤◌, ◌∙◌, List, [], length, subst, sym, ⊎_elim}
use Rattle.std.specs.Prelude.{All}
use Rattle.std.proofs.lemmas.List.Elements.{All-contains}
use Rattle.geom.specs.declared.segment.Seg.{Seg}
use Rattle.geom.specs.Limit.{AreInLimit}
use Rattle.hot_region.specs.declared.lines.Line.{Line}
use Rattle.hot_region.specs.Candidates.{chosen}
use Rattle.hot_region.specs.Halving.{edges_of, HasHot}
use Rattle.hot_region.proofs.CandidateLaws.{all_chosen}
use Rattle.hot_region.proofs.HalvingLaws.{tile_none}
use Rattle.hot_region.proofs.ListLaws.{none_in}
use Rattle.routing.specs.declared.on_line.OnLine.{OnLine}
use Rattle.hot_region.specs.Rects.{IsIn}
use Rattle.hot_region.specs.Walls.{IsInside}
use Rattle.hot_region.proofs.WallLaws.{hot_open, inside_open}
use Rattle.routing.specs.Recording.{AddsRecordsInside, AreLinesOf}
use Rattle.routing.proofs.RecordingLaws.{entries_below, no_records, records_same, tile_hot, tile_records}
use Rattle.routing.proofs.halved.found_in.Goals as goal

pub returns-in-None-clause-pixels : goal.returns-in-None-clause-pixels
returns-in-None-clause-pixels g c = rw c.new.ensures.items (tile_none c.args.tile.now (chosen c.args.limited.list.now c.args.numbers.now)
    (all_chosen (λ s. AreInLimit s.a s.b) c.args.limited.list.now c.args.numbers.now (λ s h. All-contains (λ (t : Seg). AreInLimit t.a t.b) c.args.limited.list.now s c.args.limited.in_limit h)) c.in-None.ensures)

pub returns-in-None-clause-records : goal.returns-in-None-clause-records
returns-in-None-clause-records g c = rw (c.new.ensures.items, c.new-2.ensures.items) (no_records c.args.limited.list.now c.args.numbers.now)

pub invariant_of-lined : goal.invariant_of-lined
invariant_of-lined g c =
    let are = subst (λ (xs : List OnLine). AreLinesOf xs c.in_ok-lines.lines.items) c.deref.ensures.value c.in_ok-lines.ensures in
    record {
      in_limit = c.args.limited.in_limit;
      numbered = subst (λ (xs : List OnLine). All (λ x. x.number < length c.args.limited.list.now) xs) (sym c.deref-in-Some.ensures.value) (entries_below c.args.limited.list.now c.args.numbers.now c.in_ok-table.table.items c.in_ok-lines.lines.items c.in_ok-table.ensures are);
    }

pub halve-requires-clause-lines_past : goal.halve-requires-clause-lines_past
halve-requires-clause-lines_past g c =
    let are = subst (λ (xs : List OnLine). AreLinesOf xs c.in_ok-lines.lines.items) (c.deref.ensures.value ∙ sym c.deref-in-Some.ensures.value) c.in_ok-lines.ensures in
    subst (λ (ls : List Line). All (λ l. l.past ≤ length c.deref-in-Some.result.now) ls) (sym c.deref-in-Some-2.ensures.value) are.within

pub returns-clause-pixels : goal.returns-clause-pixels
returns-clause-pixels g c =
    let segments = c.args.limited.list.now in
    let numbers = c.args.numbers.now in
    let lines = c.in_ok-lines.lines.items in
    let are = subst (λ (xs : List OnLine). AreLinesOf xs lines) c.deref.ensures.value c.in_ok-lines.ensures in
    let h = subst (λ (ls : List Line). HasHot c.in-Some.part (edges_of ls) [] c.halve.new.found.pixels.items) c.deref-in-Some-2.ensures.value (hot_open c.in-Some.part _ [] c.halve.new.found.pixels.items (rw (c.open-whole.ensures.rect, c.open-whole.ensures.walls, c.new.ensures.items) at c.in_ok-halve-in-Some.ensures.pixels)) in
    tile_hot segments numbers c.in_ok-table.table.items lines c.in_ok-table.ensures are c.args.tile.now c.in-Some.part c.in-Some.ensures c.halve.new.found.pixels.items c.ascending.result.items
    (all_chosen (λ s. AreInLimit s.a s.b) segments numbers (λ s h. All-contains (λ (t : Seg). AreInLimit t.a t.b) segments s c.args.limited.in_limit h)) h c.ascending.ensures.order c.ascending.ensures.same

pub returns-clause-records : goal.returns-clause-records
returns-clause-records g c =
    let segments = c.args.limited.list.now in
    let numbers = c.args.numbers.now in
    let table = c.in_ok-table.table.items in
    let lines = c.in_ok-lines.lines.items in
    let are = subst (λ (xs : List OnLine). AreLinesOf xs lines) c.deref.ensures.value c.in_ok-lines.ensures in
    let h = subst (λ (ls : List Line). HasHot c.in-Some.part (edges_of ls) [] c.halve.new.found.pixels.items) c.deref-in-Some-2.ensures.value (hot_open c.in-Some.part _ [] c.halve.new.found.pixels.items (rw (c.open-whole.ensures.rect, c.open-whole.ensures.walls, c.new.ensures.items) at c.in_ok-halve-in-Some.ensures.pixels)) in
    let part = c.in-Some.part in
    let inside = rw (c.open-whole.ensures.rect, c.open-whole.ensures.walls, c.new-2.ensures.items) at c.in_ok-halve-in-Some.ensures.records in
    let j = records_same segments c.deref-in-Some.result.now (IsInside part []) (IsIn part) c.deref-in-Some-2.result.now [] c.halve.new.found.records.items (inside_open part) inside in
    let k = subst (λ (ls : List Line). AddsRecordsInside segments c.deref-in-Some.result.now (IsIn part) ls [] c.halve.new.found.records.items) c.deref-in-Some-2.ensures.value j in
    let m = subst (λ (xs : List OnLine). AddsRecordsInside segments xs (IsIn part) lines [] c.halve.new.found.records.items) c.deref-in-Some.ensures.value k in
    tile_records segments numbers table lines c.in_ok-table.ensures are c.args.tile.now c.in-Some.part c.in-Some.ensures c.ascending.result.items c.halve.new.found.records.items
    (tile_hot segments numbers table lines c.in_ok-table.ensures are c.args.tile.now c.in-Some.part c.in-Some.ensures c.halve.new.found.pixels.items c.ascending.result.items
    (all_chosen (λ s. AreInLimit s.a s.b) segments numbers (λ s h. All-contains (λ (t : Seg). AreInLimit t.a t.b) segments s c.args.limited.in_limit h)) h c.ascending.ensures.order c.ascending.ensures.same)
    (λ p n. ⊎_elim (λ o. absurd (none_in p o)) (λ o. o.1) ((h.same p).0 ((c.ascending.ensures.same p).0 n))) m
