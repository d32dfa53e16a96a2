use Rattle.std.proofs.Common.{◌≡◌, ℕ, List, subst, get_or, Some}
use Rattle.std.specs.Prelude.{slice_get}
use Rattle.std.proofs.lemmas.List.{get_or_default, take_all}
use Rattle.std.proofs.lemmas.Option.{slice_get-get_or}
use Rattle.routing.specs.Recording.{AddsEnds}
use Rattle.routing.proofs.PieceLaws.{ends_next, ends_none}
use Rattle.routing.proofs.finding.add_ends.Goals as goal

pub loop-number-init : goal.loop-number-init
loop-number-init g c = ends_none c.args.tile.now c.args.limited.list.now c.args.records.now.items

pub loop-number-preserved : goal.loop-number-preserved
loop-number-preserved g c =
    let segments = c.args.limited.list.now in
    let numbers = c.args.numbers.now in
    let i = c.loop-number.number-index in
    let k = get_or numbers i 0 in
    let s = get_or segments k c.index-limited-number.result in
    let at : slice_get segments k ≡ Some s = slice_get-get_or segments k c.index-limited-number.result (c.requires i 0 c.loop-number-test.true) in
    ends_next c.args.tile.now segments numbers i k s c.args.records.now.items c.loop-number.records.items _ _ c.loop-number-test.true (get_or_default numbers i 0 k c.loop-number-test.true) at c.loop-number.invariant c.in_ok-add_end.ensures c.in_ok-add_end-2.ensures

pub returns : goal.returns
returns g c = subst (λ (ns : List ℕ). AddsEnds c.args.tile.now c.args.limited.list.now ns c.args.records.now.items c.loop-number.records.items) (take_all c.loop-number.number-index c.args.numbers.now c.loop-number-test.false) c.loop-number.invariant
