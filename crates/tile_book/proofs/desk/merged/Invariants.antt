use Rattle.std.proofs.Common.{◌≡◌, ◌+◌, sum, vec_len}
use Rattle.tile_book.proofs.desk.merged.Given as goal

abbrev pub invariant-loop-own : goal.invariant-loop-own
invariant-loop-own g l = (l.all.parts + vec_len l.shares ≡ vec_len l.fn.shares) × (l.all.amount + sum l.shares.items ≡ sum l.fn.shares.items)

abbrev pub decreases-loop-own : goal.decreases-loop-own
decreases-loop-own g l = goal.left-loop-own g l
