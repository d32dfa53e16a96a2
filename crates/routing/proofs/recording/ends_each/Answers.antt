use Rattle.std.proofs.Common.{◌≡◌, ◌<◌, arith, length, get_or, Some}
use Rattle.std.specs.Prelude.{slice_get}
use Rattle.std.proofs.lemmas.Option.{slice_get-get_or}
use Rattle.routing.proofs.RecordingLaws.{at_none, at_end, at_all}
use Rattle.routing.proofs.recording.ends_each.Goals as goal

pub loop-place-init : goal.loop-place-init
loop-place-init c = (λ records. at_none c.args.lined.now.segments.now c.args.lined.now.table.now c.args.line.now.first c.args.pixel records, omega arith, c.args.line.now.ordered)

pub loop-place-preserved : goal.loop-place-preserved
loop-place-preserved c =
    let segments = c.args.lined.now.segments.now in
    let table = c.args.lined.now.table.now in
    let place = c.loop-place.place in
    let x = get_or table place c.index-lined-place.result in
    let below : place < length table = omega arith in
    let at : slice_get table place ≡ Some x = slice_get-get_or table place c.index-lined-place.result below in
    let s = get_or segments x.number c.index-lined-lined.result in
    let is : slice_get segments x.number ≡ Some s = slice_get-get_or segments x.number c.index-lined-lined.result (c.args.lined.now.numbered place c.index-lined-place.result below) in
    let inv = c.loop-place.invariant in
    (λ records. at_end segments table c.args.line.now.first place c.args.pixel records records x s at is (c.is_end.ensures.0 (let f = c.if-not-is_end.false in cc)) (inv.0 records), omega (arith, inv.1), omega arith)

pub returns : goal.returns
returns c = λ _ records. at_all c.args.lined.now.segments.now c.args.lined.now.table.now c.args.line.now.first c.loop-place.place c.args.line.now.past c.args.pixel records records (let a = c.loop-place.invariant.2 in omega arith) (c.loop-place.invariant.0 records)
