use Rattle.std.proofs.Common.{◌≡◌, refl, arith, get_or, Some}
use Rattle.std.specs.Prelude.{slice_get}
use Rattle.std.proofs.lemmas.Option.{slice_get-get_or, slice_get_within, get_or_from_slice_get}
use Rattle.routing.proofs.RecordingLaws.{lines_first, lines_next, lines_whole}
use Rattle.routing.proofs.by_line.lines_of.Goals as goal

pub loop-first-init : goal.loop-first-init
loop-first-init g c = rw c.in_ok-lines.ensures.items (lines_first c.args.table.now)

pub loop-first-preserved : goal.loop-first-preserved
loop-first-preserved g c =
    let table = c.args.table.now in
    let first = c.loop-first.first in
    let x = get_or table first c.index-table-first.result in
    let at : slice_get table first ≡ Some x = slice_get-get_or table first c.index-table-first.result c.loop-first-test.true in
    rw c.in_ok-push.ensures.items (lines_next table first c.past_of-past.result x _ c.loop-first.lines.items at (first, slice_get_within table first x at, get_or_from_slice_get table first x x at) c.past_of-past.ensures.within refl refl refl (λ k a b u. c.past_of-past.ensures.same k a b u) c.loop-first.invariant)

pub returns : goal.returns
returns g c = lines_whole c.args.table.now c.loop-first.first c.loop-first.lines.items (omega (arith, c.loop-first-test.false)) c.loop-first.invariant
