use Rattle.std.proofs.Common.{◌≡◌, ℕ, ◌-◌, ◌<◌, ◌≤◌, ◌++◌, length, map, take}
use Rattle.std.specs.List.{All, AllPairs, Contains, range_with_len}
use Rattle.std.specs.List.Sorted.{IsPermutation}
use Rattle.label_sweep.specs.Slots.{in_slot}
use Rattle.label_sweep.proofs.status.seat.Given as goal

-- what the contract says, for the edges so far
abbrev pub invariant-loop-one : goal.invariant-loop-one
invariant-loop-one g l = record {
  grown : length l.initial.slots.items ≤ length l.slots.items;
  taken : IsPermutation (l.initial.free.items ++ range_with_len (length l.initial.slots.items) (length l.slots.items - length l.initial.slots.items)) (l.seated.items ++ l.free.items);
  edges : All (λ i. i < length l.initial.slots.items) l.initial.free.items → AllPairs (λ i j. ¬ (i ≡ j)) l.initial.free.items → map (in_slot l.slots.items) l.seated.items ≡ take l.one-index l.fresh;
  others : (i : ℕ) → ¬ (Contains l.seated.items i) → in_slot l.slots.items i ≡ in_slot l.initial.slots.items i;
  left : (i : ℕ) → Contains l.free.items i → Contains l.initial.free.items i;
}
