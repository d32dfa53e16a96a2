use Rattle.std.proofs.Common.{List, subst}
use Rattle.std.proofs.lemmas.List.{take_all}
use Rattle.routing.specs.declared.on_line.OnLine.{OnLine}
use Rattle.routing.specs.Cutting.{AreCut}
use Rattle.routing.proofs.CuttingLaws.{cut_none, cut_more}
use Rattle.routing.proofs.cutting.cut_at.Goals as goal

pub loop-whole-init : goal.loop-whole-init
loop-whole-init g c = rw c.new-portions.ensures.items (cut_none c.args.table.now)

pub loop-whole-preserved : goal.loop-whole-preserved
loop-whole-preserved g c = cut_more c.args.table.now c.loop-whole.whole-index c.whole-item.result c.loop-whole-test.true c.whole-item.is c.marks_on.result.now c.loop-whole.portions.items _ (λ m k. c.requires m (c.marks_on.ensures m k)) c.loop-whole.invariant c.in_ok-add_portions.ensures

pub returns : goal.returns
returns g c = subst (λ (xs : List OnLine). AreCut c.args.table.now xs c.loop-whole.portions.items) (take_all c.loop-whole.whole-index c.args.table.now c.loop-whole-test.false) c.loop-whole.invariant
