use Rattle.std.proofs.Common.{◌≡◌, map, take}
use Rattle.engine.specs.Measures.{only}
use Rattle.engine.proofs.measures.layer_alone.Given as goal

abbrev pub invariant-loop-one : goal.invariant-loop-one
invariant-loop-one g l = l.edges.items ≡ map (only l.layer) (take l.one-index l.counted)
