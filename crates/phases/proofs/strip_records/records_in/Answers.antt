use Rattle.routing.proofs.RecordOrder.{records_once}
use Rattle.hot_region.specs.Rects.{IsIn}
use Rattle.routing.proofs.PieceLaws.{all_candidates}
use Rattle.phases.proofs.Finding.{records_found}
use Rattle.phases.proofs.strip_records.records_in.Goals as goal

pub found_in-requires : goal.found_in-requires
found_in-requires g c = rw c.deref.ensures.value (all_candidates c.args.limited.list.now c.in_ok-numbers.numbers.items c.in_ok-numbers.ensures (IsIn c.args.tile.now)).below

pub add_ends-requires : goal.add_ends-requires
add_ends-requires g c = rw c.deref-2.ensures.value (all_candidates c.args.limited.list.now c.in_ok-numbers.numbers.items c.in_ok-numbers.ensures (IsIn c.args.tile.now)).below

pub returns : goal.returns
returns g c =
    let once = records_once c.add_ends.new.records.items _ c.dedup.new.self.items c.sort_unstable.ensures.permutation c.sort_unstable.ensures.sorted c.dedup.ensures.filtered in
    records_found c.args.limited.list.now c.in_ok-numbers.numbers.items c.in_ok-numbers.ensures c.args.tile.now c.in_ok-pixels.field-0.pixels.items c.in_ok-pixels.field-0.records.items c.add_ends.new.records.items c.dedup.new.self.items
    (rw (← c.deref.ensures.value) c.in_ok-pixels.ensures.pixels) (rw (← c.deref.ensures.value) c.in_ok-pixels.ensures.records) (rw (← c.deref-2.ensures.value) c.in_ok-add_ends.ensures) once
