use Rattle.layers.proofs.PlanFaults.{plan_belongs, plan_refused}
use Rattle.layers.proofs.checking.check_plan.Goals as goal

pub invariant_of-result : goal.invariant_of-result
invariant_of-result c = record { fits = plan_belongs c.args.plan c.in-Some.fault c.in-Some.ensures }

pub returns-in-Some : goal.returns-in-Some
returns-in-Some c = plan_refused c.args.plan c.in-Some.fault c.in-Some.ensures
