use Rattle.std.proofs.Common.{◌≡◌, take}
use Rattle.engine.specs.Measures.{steps_in}
use Rattle.engine.proofs.measures.steps_of.Given as goal

abbrev pub invariant-loop-one : goal.invariant-loop-one
invariant-loop-one l = l.steps ≡ steps_in l.layer (take l.one-index l.counted)
