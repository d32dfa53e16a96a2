use Rattle.std.proofs.Common.{◌≡◌, map, take}
use Rattle.std.specs.Prelude.{slice_range}
use Rattle.label_sweep.proofs.turn.list_spokes.Given as goal

-- the edges so far
abbrev pub invariant-loop-one : goal.invariant-loop-one
invariant-loop-one g l = map (λ s. s.one) l.spokes.items ≡ take l.one-index (slice_range l.fn.counted l.fn.from l.fn.next)
