use Rattle.std.proofs.Common.{◌≡◌, length}
use Rattle.std.specs.List.{All}
use Rattle.cover_sets.specs.Sets.{IsNumber}
use Rattle.covered_tests.proofs.worked.numbers_beside.Given as goal

-- a number for each side so far
abbrev pub invariant-loop-on_left : goal.invariant-loop-on_left
invariant-loop-on_left g l = record {
  left : length l.left.items ≡ l.on_left-index;
  right : length l.right.items ≡ l.on_left-index;
  left_numbers : All (IsNumber l.sets) l.left.items;
  right_numbers : All (IsNumber l.sets) l.right.items;
}
