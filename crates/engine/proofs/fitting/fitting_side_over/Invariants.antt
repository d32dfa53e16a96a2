use Rattle.std.proofs.Common.{map, take}
use Rattle.layers.specs.Refusals.{greatest_text}
use Rattle.layers.proofs.ReadLaws.{AreBoxed}
use Rattle.engine.proofs.fitting.fitting_side_over.Given as goal

abbrev pub invariant-loop-text : goal.invariant-loop-text
invariant-loop-text l = AreBoxed greatest_text (take l.text-index (map (λ t. t.now) l.layers)) l.bounds
