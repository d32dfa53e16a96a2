use Rattle.std.proofs.Common.{◌∙◌, ap, drop, slice_index_or}
use Rattle.std.proofs.lemmas.List.{get_or_default, take_rest}
use Rattle.polygonize.proofs.RingPieces.Cutting.{Ready, cutting_none, cutting_push, after_take, cutting_all}
use Rattle.polygonize.proofs.cut.cut.Goals as goal
use Rattle.polygonize.proofs.cut.cut.Goals.{in-Some+in_ok-piece+in_ok-push, in_default}

pub loop-v-init : goal.loop-v-init
loop-v-init g c = rw (c.in_ok-stack.ensures.items, c.in_ok-pieces.ensures.items) (cutting_none c.args.ring.now c.args.place.now)

pub loop-v-preserved : goal.loop-v-preserved
loop-v-preserved g c =
    let v = slice_index_or c.args.ring.now c.loop-v.v-index 0 in
    let is = get_or_default c.args.ring.now c.loop-v.v-index 0 v c.loop-v-test.true in
    let stack = c.loop-v.stack.items in
    let ready : Ready c.args.ring.now c.loop-v.v-index c.match-place_on.stack.items c.loop-v.place c.match-place_on.pieces.items v = elim c.match-place_on.branch [
      | in-Some+in_ok-piece+in_ok-push w ↦ rw (w.stack-is, w.pieces-is)
          (after_take c.args.ring.now c.loop-v.v-index stack w.truncate.new.self.items c.loop-v.place c.loop-v.pieces.items w.push.new.self.items w.new.result v w.in-Some.at
          c.loop-v-test.true is (rw c.deref.ensures.value at w.in-Some.ensures.some) w.truncate.ensures.items (w.new.ensures ∙ w.in_ok-piece.ensures.items ∙ take_rest w.deref-in-Some.result.now w.in-Some.at ∙ ap (drop w.in-Some.at) w.deref-in-Some.ensures.value) w.in_ok-push.ensures.items c.loop-v.invariant)
      | in_default w ↦ rw (w.stack-is, w.pieces-is) (record { cutting = c.loop-v.invariant; free = rw c.deref.ensures.value at (c.place_on.ensures.none w.in_default.is) })
    ] in
    let inside = c.requires c.loop-v.v-index 0 c.loop-v-test.true in
    let len = c.len.ensures ∙ c.match-place_on.stack.ok.0 in
    rw (c.in_ok-push-2.ensures.items, c.in_ok-place.ensures, len) (cutting_push c.args.ring.now c.loop-v.v-index c.match-place_on.stack.items c.loop-v.place c.match-place_on.pieces.items v c.loop-v-test.true is (rw c.loop-v.auto.place inside) ready.free ready.cutting)

pub returns : goal.returns
returns g c = rw (c.in_ok-push-3.ensures.items, c.new-2.ensures) (cutting_all c.args.ring.now c.loop-v.v-index c.loop-v.stack.items c.loop-v.place c.loop-v.pieces.items c.loop-v-test.false c.loop-v.invariant)

pub place_on-requires-clause-stacked : goal.place_on-requires-clause-stacked
place_on-requires-clause-stacked g c = rw c.deref.ensures.value c.loop-v.invariant.stacked

pub place_on-requires-clause-inside : goal.place_on-requires-clause-inside
place_on-requires-clause-inside g c = rw c.loop-v.auto.place (c.requires c.loop-v.v-index 0 c.loop-v-test.true)

pub bounds-place-v : goal.bounds-place-v
bounds-place-v g c = rw c.loop-v.auto.place (c.requires c.loop-v.v-index 0 c.loop-v-test.true)
