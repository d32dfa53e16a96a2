use Rattle.std.proofs.Common.{List, subst}
use Rattle.std.proofs.lemmas.List.{take_all}
use Rattle.hot_region.specs.declared.lines.Line.{Line}
use Rattle.hot_region.specs.Halving.{ArePassing}
use Rattle.hot_region.specs.Rects.{IsIn}
use Rattle.hot_region.proofs.HalvingLaws.{part_none, part_push, part_skip}
use Rattle.hot_region.proofs.halving.passing.Goals as goal
use Rattle.hot_region.proofs.halving.passing.Goals.{then-passes+in_ok-push, else-passes}

pub loop-line-init : goal.loop-line-init
loop-line-init g c = rw c.in_ok-part.ensures.items (part_none (IsIn c.args.rect.now))

pub loop-line-preserved : goal.loop-line-preserved
loop-line-preserved g c =
    let rect = c.args.rect.now in
    let lines = c.args.lines.now in
    let i = c.loop-line.line-index in
    let e = c.line-item.result in
    elim c.if-passes.branch [
      | then-passes+in_ok-push w ↦ rw (w.part-is, w.in_ok-push.ensures.items) (part_push (IsIn rect) lines i e c.loop-line.part.items c.loop-line-test.true c.line-item.is c.loop-line.invariant)
      | else-passes w ↦ rw w.part-is (part_skip (IsIn rect) lines i e c.loop-line.part.items c.loop-line-test.true c.line-item.is (λ p h m. let a = c.passes.ensures p h m in let b = w.if-passes.false in cc) c.loop-line.invariant)
    ]

pub returns : goal.returns
returns g c = rw c.shrink_to_fit.ensures.items (subst (λ (es : List Line). ArePassing c.args.rect.now es c.loop-line.part.items) (take_all c.loop-line.line-index c.args.lines.now c.loop-line-test.false) c.loop-line.invariant)
