use Rattle.std.proofs.Common.{List, subst}
use Rattle.std.proofs.lemmas.List.{take_all}
use Rattle.geom.specs.declared.point.Pt.{Pt}
use Rattle.hot_region.specs.declared.lines.Line.{Line}
use Rattle.hot_region.specs.Halving.{AreReaching}
use Rattle.hot_region.specs.Rects.{IsIn}
use Rattle.hot_region.specs.Walls.{IsBehind}
use Rattle.hot_region.proofs.HalvingLaws.{part_none, part_push, part_skip}
use Rattle.hot_region.proofs.region.passing_behind.Goals as goal
use Rattle.hot_region.proofs.region.passing_behind.Goals.{then-may_meet_behind+in_ok-push, else-may_meet_behind}

pub loop-line-init : goal.loop-line-init
loop-line-init g c = rw c.in_ok-part.ensures.items (part_none (λ (p : Pt). IsIn c.args.rect.now p × IsBehind c.args.wall.now p))

pub loop-line-preserved : goal.loop-line-preserved
loop-line-preserved g c =
    let Inside : Pt → Type 0 = (λ (p : Pt). IsIn c.args.rect.now p × IsBehind c.args.wall.now p) in
    let lines = c.args.lines.now in
    let i = c.loop-line.line-index in
    let e = c.line-item.result in
    elim c.if-may_meet_behind.branch [
      | then-may_meet_behind+in_ok-push w ↦ rw (w.part-is, w.in_ok-push.ensures.items) (part_push Inside lines i e c.loop-line.part.items c.loop-line-test.true c.line-item.is c.loop-line.invariant)
      | else-may_meet_behind w ↦ rw w.part-is (part_skip Inside lines i e c.loop-line.part.items c.loop-line-test.true c.line-item.is (λ p h m. let a = c.may_meet_behind.ensures p h m in let b = w.if-may_meet_behind.false in cc) c.loop-line.invariant)
    ]

pub returns : goal.returns
returns g c = rw c.shrink_to_fit.ensures.items (subst (λ (es : List Line). AreReaching (λ (p : Pt). IsIn c.args.rect.now p × IsBehind c.args.wall.now p) es c.loop-line.part.items) (take_all c.loop-line.line-index c.args.lines.now c.loop-line-test.false) c.loop-line.invariant)
