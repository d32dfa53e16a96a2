use Rattle.std.proofs.Common.{◌≡◌, ℕ, List, refl, subst, length, get_or, Some}
use Rattle.std.specs.Prelude.{slice_get}
use Rattle.std.proofs.lemmas.List.{get_or_default, take_all}
use Rattle.std.proofs.lemmas.Option.{slice_get_read}
use Rattle.hot_region.specs.Candidates.{chosen}
use Rattle.hot_pixel.specs.SegmentLines.{AreEachLine}
use Rattle.hot_pixel.proofs.PairCounts.{chosen_more, each_push}
use Rattle.hot_pixel.proofs.lines.each_line.Goals as goal

pub loop-number-preserved : goal.loop-number-preserved
loop-number-preserved g c =
    let segments = c.args.segments.now in
    let numbers = c.args.numbers.now in
    let i = c.loop-number.number-index in
    let k = get_or numbers i 0 in
    let s = c.index-segments-number.result in
    let at : slice_get segments k ≡ Some s = slice_get_read segments (length segments) k s refl (c.requires i 0 c.loop-number-test.true) c.index-segments-number.is in
    rw (c.in_ok-push.ensures.items, chosen_more segments numbers i k s c.loop-number-test.true (get_or_default numbers i 0 k c.loop-number-test.true) at) (each_push _ _ s c.edge_of.result c.loop-number.invariant c.edge_of.ensures)

pub returns : goal.returns
returns g c = subst (λ (ns : List ℕ). AreEachLine (chosen c.args.segments.now ns) c.loop-number.list.items) (take_all c.loop-number.number-index c.args.numbers.now c.loop-number-test.false) c.loop-number.invariant
