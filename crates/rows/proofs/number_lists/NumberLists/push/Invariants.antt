use Rattle.std.proofs.Common.{◌≡◌, ◌++◌, ◌-◌, map, take}
use Rattle.rows.proofs.number_lists.NumberLists.push.Given as goal

abbrev pub invariant-loop-feature : goal.invariant-loop-feature
invariant-loop-feature g l = record {
  numbers : l.self.numbers.items ≡ l.fn.self.numbers.items ++ map (λ f. f - l.first) (take l.feature-index l.features);
  offsets : l.self.offsets ≡ l.fn.self.offsets;
}
