use Rattle.std.proofs.Common.{◌≡◌, ℕ, List, refl, subst, get_or, Some}
use Rattle.std.specs.Prelude.{slice_get}
use Rattle.std.proofs.lemmas.List.{get_or_default, take_all}
use Rattle.std.proofs.lemmas.Option.{slice_get-get_or}
use Rattle.routing.specs.Recording.{IsTable}
use Rattle.routing.proofs.RecordingLaws.{limit_of, table_none, table_more}
use Rattle.routing.proofs.by_line.each_on_line.Goals as goal

pub loop-number-init : goal.loop-number-init
loop-number-init g c = rw c.in_ok-table.ensures.items (table_none c.args.limited.list.now)

pub invariant_of-push : goal.invariant_of-push
invariant_of-push g c =
    let i = c.loop-number.number-index in
    let k = get_or c.args.numbers.now i 0 in
    let blank = c.index-limited-number.result in
    record { in_limit = limit_of c.edge_of.result (get_or c.args.limited.list.now k blank) c.edge_of.ensures (c.args.limited.in_limit k blank (c.requires i 0 c.loop-number-test.true)) }

pub loop-number-preserved : goal.loop-number-preserved
loop-number-preserved g c =
    let segments = c.args.limited.list.now in
    let numbers = c.args.numbers.now in
    let i = c.loop-number.number-index in
    let k = get_or numbers i 0 in
    let s = get_or segments k c.index-limited-number.result in
    let at : slice_get segments k ≡ Some s = slice_get-get_or segments k c.index-limited-number.result (c.requires i 0 c.loop-number-test.true) in
    rw c.in_ok-push.ensures.items (table_more segments numbers i k s _ c.loop-number.table.items c.loop-number-test.true (get_or_default numbers i 0 k c.loop-number-test.true) at c.edge_of.ensures refl c.loop-number.invariant)

pub returns : goal.returns
returns g c = subst (λ (ns : List ℕ). IsTable c.args.limited.list.now ns c.loop-number.table.items) (take_all c.loop-number.number-index c.args.numbers.now c.loop-number-test.false) c.loop-number.invariant
