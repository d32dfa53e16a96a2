use Rattle.std.proofs.Common.{◌≡◌, take}
use Rattle.hands.specs.Idle.{with_idle}
use Rattle.hands.proofs.parts.places_of.Given as goal

-- the places of the parts up to here
abbrev pub invariant-loop-part : goal.invariant-loop-part
invariant-loop-part g l = l.places.items ≡ with_idle (take l.part-index l.parts)
