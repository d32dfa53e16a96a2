use Rattle.std.proofs.Common.{◌-◌, ◌≤◌, length}
use Rattle.std.specs.Prelude.{All}
use Rattle.hands.specs.Consecutive.{ArePartsOf}
use Rattle.label_sweep.specs.Column.{IsStrip, OpensColumn}
use Rattle.label_sweep.proofs.strips.strips_of.Given as goal

-- the strips up to an edge whose column opens there
abbrev pub invariant-loop-from : goal.invariant-loop-from
invariant-loop-from g l = ArePartsOf 0 l.from l.strips.items × All (IsStrip l.counted) l.strips.items × OpensColumn l.counted l.from × (l.from ≤ length l.counted)

abbrev pub decreases-loop-from : goal.decreases-loop-from
decreases-loop-from g l = length l.counted - l.from
