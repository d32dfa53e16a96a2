use Rattle.std.proofs.Common.{arith, subst}
use Rattle.std.proofs.lemmas.List.{get_or_default}
use Rattle.std.proofs.lemmas.List.Elements.{AllWithin-more}
use Rattle.geom.specs.declared.point.Pt.{Pt}
use Rattle.geom.specs.Order.{IsUpTo}
use Rattle.label_sweep.proofs.Merging.{ends_past}
use Rattle.label_sweep.proofs.second_ends.last_end.Goals as goal

pub loop-past-preserved : goal.loop-past-preserved
loop-past-preserved c =
    let P : Pt → Type 0 = λ q. IsUpTo q c.args.v in (
      omega arith,
      omega arith,
      AllWithin-more P c.args.ends.now c.args.from c.loop-past.past c.loop-past.invariant.2
          (λ d. subst P (get_or_default c.args.ends.now c.loop-past.past _ d c.loop-past-test.true) (c.is_up_to.ensures.upto c.if-is_up_to.true)),
    )

pub returns-else-is_up_to-clause-past : goal.returns-else-is_up_to-clause-past
returns-else-is_up_to-clause-past c ascending = ends_past c.args.ends.now ascending c.args.v c.loop-past.past _ c.loop-past-test.true (c.is_up_to.ensures.past c.if-is_up_to.false)
