use Rattle.std.proofs.Common.{arith}
use Rattle.grid.specs.Tiles.{Owns}
use Rattle.routing.proofs.RecordOrder.{records_once}
use Rattle.routing.proofs.PieceLaws.{all_found, piece_found, piece_of_all}
use Rattle.routing.proofs.finding.piece.Goals as goal

pub found_in-requires : goal.found_in-requires
found_in-requires g c = c.requires.candidates.below

pub candidates_of-requires : goal.candidates_of-requires
candidates_of-requires g c = c.requires.candidates.below

pub add_ends-requires : goal.add_ends-requires
add_ends-requires g c = c.requires.candidates.below

pub invariant_of-result : goal.invariant_of-result
invariant_of-result g c =
    let once = records_once c.add_ends.new.records.items _ c.dedup.new.self.items c.sort_unstable.ensures.permutation c.sort_unstable.ensures.sorted c.dedup.ensures.filtered in
    record {
      exact = ∣ piece_found c.args.segments.now c.args.numbers.now c.rect-tile.result c.in_ok-pixels.field-0.pixels.items c.in_ok-candidates.candidates.items c.add_ends.new.records.items c.dedup.new.self.items c.len-2.result c.in_ok-pixels.ensures.pixels c.in_ok-candidates.ensures (all_found c.args.segments.now c.args.numbers.now c.rect-tile.result c.in_ok-pixels.field-0.pixels.items c.in_ok-pixels.field-0.records.items c.add_ends.new.records.items c.in_ok-pixels.ensures.pixels c.in_ok-pixels.ensures.records c.in_ok-add_ends.ensures) once (omega (arith, c.len-2.ensures, c.in_ok-pixels.field-0.pixels.ok.0)) ∣₁;
    }

pub returns-clause-exact : goal.returns-clause-exact
returns-clause-exact g c =
    let owns = Owns c.args.grid.now c.args.number in
    let once = records_once c.add_ends.new.records.items _ c.dedup.new.self.items c.sort_unstable.ensures.permutation c.sort_unstable.ensures.sorted c.dedup.ensures.filtered in
    piece_of_all owns c.args.segments.now c.args.numbers.now c.rect-tile.result c.in_ok-candidates.candidates.items c.len-2.result c.dedup.new.self.items c.rect-tile.ensures.exact c.requires.candidates c.in_ok-candidates.ensures
    (piece_found c.args.segments.now c.args.numbers.now c.rect-tile.result c.in_ok-pixels.field-0.pixels.items c.in_ok-candidates.candidates.items c.add_ends.new.records.items c.dedup.new.self.items c.len-2.result c.in_ok-pixels.ensures.pixels c.in_ok-candidates.ensures (all_found c.args.segments.now c.args.numbers.now c.rect-tile.result c.in_ok-pixels.field-0.pixels.items c.in_ok-pixels.field-0.records.items c.add_ends.new.records.items c.in_ok-pixels.ensures.pixels c.in_ok-pixels.ensures.records c.in_ok-add_ends.ensures) once (omega (arith, c.len-2.ensures, c.in_ok-pixels.field-0.pixels.ok.0)))
