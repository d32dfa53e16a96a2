use Rattle.std.proofs.Common.{List, subst}
use Rattle.geom.specs.declared.edge.Counted.{Counted}
use Rattle.phases.specs.Labels.{AreOfStrip}
use Rattle.phases.proofs.StripLabels.{crossing_in_limit, none_come, own_in_limit, tell}
use Rattle.points_law.specs.Law.{AreLayers}
use Rattle.phases_tests.proofs.labelled.are_labels_of_strips.Invariants.{cuts}
use Rattle.phases_tests.proofs.labelled.are_labels_of_strips.Goals as goal

pub loop-strip-init : goal.loop-strip-init
loop-strip-init c = rw c.new-crossing.ensures.items (none_come cuts c.in_ok-counted.counted.items)

pub labels-requires : goal.labels-requires
labels-requires c =
    let counted = c.in_ok-counted.counted.items in
    let strip = c.loop-strip.strip in
    let P : List Counted → Type 0 = λ t. AreLayers t → AreOfStrip cuts strip t c.in_ok-own.own.items in
    let mine = subst P c.deref.ensures.value c.in_ok-own.ensures c.in_ok-counted.ensures in
    let crossing = c.deref-in-loop-strip.result.now in
    let own = c.deref-in-loop-strip-2.result.now in
    let t = tell counted cuts strip c.in_ok-counted.ensures c.loop-strip.crossing.items c.in_ok-own.own.items crossing own c.loop-strip.invariant mine c.deref-in-loop-strip.ensures.value c.deref-in-loop-strip-2.ensures.value in
    record { crossing_in = crossing_in_limit cuts strip counted crossing own t; own_in = own_in_limit cuts strip counted crossing own t }

pub strip_labels-requires : goal.strip_labels-requires
strip_labels-requires c =
    let counted = c.in_ok-counted.counted.items in
    let strip = c.loop-strip.strip in
    let P : List Counted → Type 0 = λ t. AreLayers t → AreOfStrip cuts strip t c.in_ok-own.own.items in
    let mine = subst P c.deref.ensures.value c.in_ok-own.ensures c.in_ok-counted.ensures in
    let crossing = c.deref-in-loop-strip-3.result.now in
    let own = c.deref-in-loop-strip-4.result.now in
    let t = tell counted cuts strip c.in_ok-counted.ensures c.loop-strip.crossing.items c.in_ok-own.own.items crossing own c.loop-strip.invariant mine c.deref-in-loop-strip-3.ensures.value c.deref-in-loop-strip-4.ensures.value in
    record { crossing_in = crossing_in_limit cuts strip counted crossing own t; own_in = own_in_limit cuts strip counted crossing own t }

pub loop-strip-preserved : goal.loop-strip-preserved
loop-strip-preserved c =
    let counted = c.in_ok-counted.counted.items in
    let strip = c.loop-strip.strip in
    let P : List Counted → Type 0 = λ t. AreLayers t → AreOfStrip cuts strip t c.in_ok-own.own.items in
    let mine = subst P c.deref.ensures.value c.in_ok-own.ensures c.in_ok-counted.ensures in
    c.in_ok-crossing.ensures counted
    (tell counted cuts strip c.in_ok-counted.ensures c.loop-strip.crossing.items c.in_ok-own.own.items
    c.deref-in-loop-strip-6.result.now c.deref-in-loop-strip-7.result.now c.loop-strip.invariant mine c.deref-in-loop-strip-6.ensures.value c.deref-in-loop-strip-7.ensures.value)
