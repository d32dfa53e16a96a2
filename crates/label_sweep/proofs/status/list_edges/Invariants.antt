use Rattle.std.proofs.Common.{◌≡◌, ◌<◌, length, map, take}
use Rattle.std.specs.List.{All}
use Rattle.label_sweep.specs.Slots.{in_slot}
use Rattle.label_sweep.proofs.status.list_edges.Given as goal

-- the edges of the numbers so far
abbrev pub invariant-loop-number : goal.invariant-loop-number
invariant-loop-number g l = All (λ i. i < length l.slots) l.numbers → l.edges.items ≡ map (in_slot l.slots) (take l.number-index l.numbers)
