use Rattle.std.proofs.Common.{◌≡◌, ◌<◌, arith, length, get_or, Some, sym, subst, List, ⊎_elim}
use Rattle.std.specs.Prelude.{◌⊎◌, MatchBool, slice_get, Contains}
use Rattle.std.proofs.lemmas.Option.{slice_get-get_or}
use Rattle.geom.specs.declared.point.Pt.{Pt}
use Rattle.geom.specs.declared.segment.Seg.{Seg}
use Rattle.geom.proofs.Lists.{some_same}
use Rattle.routing.specs.declared.record.Record.{Record}
use Rattle.routing.specs.Pieces.{IsEnd}
use Rattle.routing.proofs.RecordingLaws.{IsInnerAt, at_none, at_more, at_known, at_end, at_all}
use Rattle.routing.proofs.PieceLaws.{is_end_or_not}
use Rattle.routing.proofs.piled.add_new_at.Goals as goal
use Rattle.routing.proofs.piled.add_new_at.Goals.{then-is_new+in_ok-push, else-is_new}

pub loop-place-init : goal.loop-place-init
loop-place-init g c = (at_none c.args.lined.now.segments.now c.args.lined.now.table.now c.args.line.now.first c.args.pixel c.args.records.now.items, omega arith, c.args.line.now.ordered)

pub loop-place-preserved : goal.loop-place-preserved
loop-place-preserved g c =
    let segments = c.args.lined.now.segments.now in
    let table = c.args.lined.now.table.now in
    let pixel = c.args.pixel in
    let first = c.args.line.now.first in
    let place = c.loop-place.place in
    let old = c.args.records.now.items in
    let x = get_or table place c.index-lined-place.result in
    let below : place < length table = omega arith in
    let at : slice_get table place ≡ Some x = slice_get-get_or table place c.index-lined-place.result below in
    let s = get_or segments x.number c.index-lined-number.result in
    let is : slice_get segments x.number ≡ Some s = slice_get-get_or segments x.number c.index-lined-number.result (c.args.lined.now.numbered place c.index-lined-place.result below) in
    let here = c.record_at-record.ensures in
    let inv = c.loop-place.invariant in (
      elim c.if-is_new.branch [
        | then-is_new+in_ok-push w ↦
            let inner = subst (λ b. MatchBool b (¬ (IsEnd s c.record_at-record.result.pixel)) (IsEnd s c.record_at-record.result.pixel ⊎ Contains c.deref-in-loop-place-2.result.now c.record_at-record.result)) w.if-is_new.true c.is_new.ensures in
            let apart : IsInnerAt segments x.number pixel = λ t e k. inner (subst (λ (p : Pt). IsEnd s p) (sym here.pixel_is) (subst (λ (u : Seg). IsEnd u pixel) (some_same e is) k)) in
            rw (w.records-is, w.in_ok-push.ensures.items) (at_more segments table first place pixel old c.loop-place.records.items x _ inv.1 at here apart inv.0)
        | else-is_new w ↦ rw w.records-is (⊎_elim
            (λ k. at_end segments table first place pixel old c.loop-place.records.items x s at is (subst (λ (p : Pt). IsEnd s p) here.pixel_is k) inv.0)
            (λ k. ⊎_elim
            (λ e. at_end segments table first place pixel old c.loop-place.records.items x s at is e inv.0)
            (λ n. at_known segments table first place pixel old c.loop-place.records.items x _ inv.1 at here (λ t e k. n (subst (λ (u : Seg). IsEnd u pixel) (some_same e is) k)) (subst (λ (rs : List Record). Contains rs c.record_at-record.result) c.deref-in-loop-place-2.ensures.value k) inv.0)
            (is_end_or_not s pixel))
            (subst (λ b. MatchBool b (¬ (IsEnd s c.record_at-record.result.pixel)) (IsEnd s c.record_at-record.result.pixel ⊎ Contains c.deref-in-loop-place-2.result.now c.record_at-record.result)) w.if-is_new.false c.is_new.ensures))
      ],
      omega (arith, inv.1),
      omega arith,
    )

pub returns : goal.returns
returns g c = at_all c.args.lined.now.segments.now c.args.lined.now.table.now c.args.line.now.first c.loop-place.place c.args.line.now.past c.args.pixel c.args.records.now.items c.loop-place.records.items (let a = c.loop-place.invariant.2 in omega arith) c.loop-place.invariant.0
