use Rattle.std.proofs.Common.{◌≡◌, map, take}
use Rattle.program.proofs.faces_program.slices_of.Given as goal

abbrev pub invariant-loop-text : goal.invariant-loop-text
invariant-loop-text l = map (λ t. t.now) l.layers.items ≡ map (λ t. t.items) (take l.text-index l.texts)
