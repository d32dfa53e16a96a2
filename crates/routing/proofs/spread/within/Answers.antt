use Rattle.std.proofs.Common.{List, subst, get_or}
use Rattle.std.proofs.Math.IntN.{pos}
use Rattle.std.proofs.lemmas.List.{get_or_default, take_all}
use Rattle.geom.specs.declared.point.Pt.{Pt}
use Rattle.routing.specs.Spread.{AreThoseIn}
use Rattle.routing.proofs.SpreadLaws.{those_none, those_push, those_skip}
use Rattle.routing.proofs.spread.within.Goals as goal
use Rattle.routing.proofs.spread.within.Goals.{then-holds+in_ok-push, else-holds}

pub loop-pixel-init : goal.loop-pixel-init
loop-pixel-init g c = rw c.new-part.ensures.items (those_none c.args.rect.now)

pub loop-pixel-preserved : goal.loop-pixel-preserved
loop-pixel-preserved g c =
    let rect = c.args.rect.now in
    let pixels = c.args.pixels.now in
    let i = c.loop-pixel.pixel-index in
    let blank : Pt = record { x = pos 0; y = pos 0 } in
    let p = get_or pixels i blank in
    let is = get_or_default pixels i blank p c.loop-pixel-test.true in
    elim c.if-holds.branch [
      | then-holds+in_ok-push w ↦ rw (w.part-is, w.in_ok-push.ensures.items) (those_push rect pixels i p c.loop-pixel.part.items c.loop-pixel-test.true is c.loop-pixel.invariant (c.holds.ensures.0 w.if-holds.true))
      | else-holds w ↦ rw w.part-is (those_skip rect pixels i p c.loop-pixel.part.items c.loop-pixel-test.true is c.loop-pixel.invariant (λ h. let a = c.holds.ensures.1 h in let b = w.if-holds.false in cc))
    ]

pub returns : goal.returns
returns g c = subst (λ (ps : List Pt). AreThoseIn c.args.rect.now ps c.loop-pixel.part.items) (take_all c.loop-pixel.pixel-index c.args.pixels.now c.loop-pixel-test.false) c.loop-pixel.invariant
