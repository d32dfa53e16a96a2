use Rattle.std.proofs.Common.{◌≡◌, ◌<◌, arith, length, get_or, Some, subst}
use Rattle.std.specs.Prelude.{slice_get}
use Rattle.std.proofs.lemmas.Option.{slice_get-get_or}
use Rattle.geom.specs.declared.segment.Seg.{Seg}
use Rattle.geom.proofs.Lists.{some_same}
use Rattle.routing.specs.Pieces.{IsEnd}
use Rattle.routing.proofs.RecordingLaws.{IsInnerAt, at_none, at_more, at_end, at_all}
use Rattle.routing.proofs.recording.add_at.Goals as goal
use Rattle.routing.proofs.recording.add_at.Goals.{then-not-is_end+in_ok-push, else-not-is_end}

pub loop-place-init : goal.loop-place-init
loop-place-init g c = (at_none c.args.lined.now.segments.now c.args.lined.now.table.now c.args.line.now.first c.args.pixel c.args.records.now.items, omega arith, c.args.line.now.ordered)

pub loop-place-preserved : goal.loop-place-preserved
loop-place-preserved g c =
    let segments = c.args.lined.now.segments.now in
    let table = c.args.lined.now.table.now in
    let pixel = c.args.pixel in
    let place = c.loop-place.place in
    let old = c.args.records.now.items in
    let x = get_or table place c.index-lined-place.result in
    let below : place < length table = omega arith in
    let at : slice_get table place ≡ Some x = slice_get-get_or table place c.index-lined-place.result below in
    let s = get_or segments x.number c.index-lined-number.result in
    let is : slice_get segments x.number ≡ Some s = slice_get-get_or segments x.number c.index-lined-number.result (c.args.lined.now.numbered place c.index-lined-place.result below) in
    let inv = c.loop-place.invariant in (
      elim c.if-not-is_end.branch [
        | then-not-is_end+in_ok-push w ↦
            let apart : IsInnerAt segments x.number pixel = λ t e k. (let y = c.is_end.ensures.1 (subst (λ (u : Seg). IsEnd u pixel) (some_same e is) k) in let f = w.if-not-is_end.true in cc) in
            rw (w.records-is, w.in_ok-push.ensures.items) (at_more segments table c.args.line.now.first place pixel old c.loop-place.records.items x _ inv.1 at w.record_at.ensures apart inv.0)
        | else-not-is_end w ↦ rw w.records-is (at_end segments table c.args.line.now.first place pixel old c.loop-place.records.items x s at is (c.is_end.ensures.0 (let f = w.if-not-is_end.false in cc)) inv.0)
      ],
      omega (arith, inv.1),
      omega arith,
    )

pub returns : goal.returns
returns g c = at_all c.args.lined.now.segments.now c.args.lined.now.table.now c.args.line.now.first c.loop-place.place c.args.line.now.past c.args.pixel c.args.records.now.items c.loop-place.records.items (let a = c.loop-place.invariant.2 in omega arith) c.loop-place.invariant.0
