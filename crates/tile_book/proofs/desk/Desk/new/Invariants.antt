use Rattle.std.proofs.Common.{◌≡◌, ◌+◌, All, None, vec_len, replicate}
use Rattle.tile_book.proofs.desk.Desk.new.Given as goal

abbrev pub invariant-loop : goal.invariant-loop
invariant-loop g l = l.held.items ≡ replicate l.counter None

abbrev pub invariant-loop-2 : goal.invariant-loop-2
invariant-loop-2 g l = (l.rest.parts + l.counter ≡ l.shares) × (l.rest.amount ≡ 0) × (vec_len l.made ≡ l.counter) × All (λ s. s ≡ 0) l.made.items
