use Rattle.std.proofs.Common.{◌≡◌}
use Rattle.tile_book_tests.proofs.draws.draws_so.Given as goal

abbrev pub invariant-loop-is_one : goal.invariant-loop-is_one
invariant-loop-is_one g l = (l.one.draw ≡ l.fn.draw) × (l.other.draw ≡ l.fn.draw)
