use Rattle.std.proofs.Common.{arith, subst}
use Rattle.std.proofs.lemmas.List.Elements.{AllWithin-more, at_read}
use Rattle.geom.specs.declared.edge.Counted.{Counted}
use Rattle.geom.specs.Order.{IsUpTo, IsBefore}
use Rattle.label_sweep.proofs.Ends.{all_past}
use Rattle.label_sweep.proofs.vertices.last_of.Goals as goal

pub loop-next-preserved : goal.loop-next-preserved
loop-next-preserved c = (
  omega arith,
  omega arith,
  AllWithin-more (λ (t : Counted). IsUpTo t.edge.p c.args.v) c.args.counted.now c.args.from c.loop-next.next c.loop-next.invariant.2
      (at_read c.args.counted.now (λ (t : Counted). IsUpTo t.edge.p c.args.v) c.loop-next.next c.index-counted-next.result c.loop-next-test.true c.index-counted-next.is (c.begins_up_to.ensures.upto c.if-begins_up_to.true)),
)

pub returns-else-begins_up_to-clause-past : goal.returns-else-begins_up_to-clause-past
returns-else-begins_up_to-clause-past c ascending = let P : Counted → Type 0 = λ t. IsBefore c.args.v t.edge.p in
    all_past c.args.counted.now ascending c.args.v c.loop-next.next c.index-counted-next.result c.loop-next-test.true
    (subst P c.index-counted-next.is (c.begins_up_to.ensures.past c.if-begins_up_to.false))
