use Rattle.std.proofs.Common.{◌≡◌, map, take}
use Rattle.std.specs.Prelude.{Some, slice_get}
use Rattle.lane_tests.proofs.edges.Edges.of.Given as goal

abbrev pub invariant-loop-number : goal.invariant-loop-number
invariant-loop-number g l = map (λ e. Some e) l.chosen ≡ map (slice_get l.edges) (take l.number-index l.numbers)
