use Rattle.std.proofs.Common.{◌≡◌, None, Some, get_or}
use Rattle.std.specs.Prelude.{slice_get}
use Rattle.std.proofs.lemmas.List.{get_or_default}
use Rattle.std.proofs.lemmas.Option.{get_or_from_slice_get, slice_get_within}
use Rattle.hot_region.specs.declared.carrier.Carried.{Carried}
use Rattle.hot_region.proofs.CarrierLaws.{firsts_push, firsts_skip, firsts_all}
use Rattle.hot_region.proofs.carrier.first_of_each.Goals as goal
use Rattle.hot_region.proofs.carrier.first_of_each.Goals.{then-not-repeats_strand+in_ok-push, else-not-repeats_strand}

pub loop-place-preserved : goal.loop-place-preserved
loop-place-preserved g c =
    let lines = c.args.lines.now in
    let items = c.args.items.now in
    let i = c.loop-place.place in
    let blank : Carried = record { strand = None; place = 0 } in
    let item = get_or items i blank in
    let is : item ≡ get_or items i item = get_or_default items i blank item c.loop-place-test.true in
    elim c.if-not-repeats_strand.branch [
      | then-not-repeats_strand+in_ok-push w ↦
          let l = w.line_of.result in
          let at : slice_get lines item.place ≡ Some l = w.line_of.ensures item is in
          rw (w.kept-is, w.in_ok-push.ensures.items) (firsts_push lines items i item c.loop-place.kept.items c.loop-place-test.true is c.loop-place.invariant l at (item.place, slice_get_within lines item.place l at, get_or_from_slice_get lines item.place l l at))
      | else-not-repeats_strand w ↦
          let led = c.repeats_strand.ensures item w.if-not-repeats_strand.false is in
          rw w.kept-is (firsts_skip lines items i item c.loop-place.kept.items c.loop-place-test.true is c.loop-place.invariant led.0 led.1 led.2)
    ]

pub returns : goal.returns
returns g c = firsts_all c.args.lines.now c.args.items.now c.loop-place.place c.loop-place.kept.items c.loop-place-test.false c.loop-place.invariant
