use Rattle.std.proofs.Common.{◌≡◌, take}
use Rattle.overlay_c.specs.Strips.{carried_numbers, open_numbers}
use Rattle.overlay_c.proofs.strip_contradictions.differing.Given as goal

abbrev pub invariant-loop-place : goal.invariant-loop-place
invariant-loop-place l = take l.place (open_numbers l.right) ≡ take l.place (carried_numbers l.carried)
