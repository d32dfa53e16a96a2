use Rattle.std.proofs.Common.{arith}
use Rattle.layers.proofs.checking.plan_fault.Goals as goal
use Rattle.layers.proofs.checking.plan_fault.Goals.{then-plan-lt-LEAST_SIDE-via-then-plan-lt-LEAST_SIDE, then-plan-lt-LEAST_SIDE-via-else-plan-lt-LEAST_SIDE+then-plan-gt-GREATEST_SIDE, then-plan-eq0-via-then-plan-eq0, then-plan-eq0-via-else-plan-eq0+then-plan-gt-MOST_HANDS}

pub returns-then-plan-lt-LEAST_SIDE : goal.returns-then-plan-lt-LEAST_SIDE
returns-then-plan-lt-LEAST_SIDE c = λ h. elim c.then-plan-lt-LEAST_SIDE.branch [
  | then-plan-lt-LEAST_SIDE-via-then-plan-lt-LEAST_SIDE w ↦ omega arith
  | then-plan-lt-LEAST_SIDE-via-else-plan-lt-LEAST_SIDE+then-plan-gt-GREATEST_SIDE w ↦ omega arith
]

pub returns-then-plan-eq0 : goal.returns-then-plan-eq0
returns-then-plan-eq0 c = (
  (omega arith, omega arith),
  (λ h. elim c.then-plan-eq0.branch [
    | then-plan-eq0-via-then-plan-eq0 w ↦ omega arith
    | then-plan-eq0-via-else-plan-eq0+then-plan-gt-MOST_HANDS w ↦ omega arith
  ]),
)
