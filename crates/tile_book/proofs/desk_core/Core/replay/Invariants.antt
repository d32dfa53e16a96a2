use Rattle.std.proofs.Common.{◌≡◌, ◌≤◌, ◌++◌, drop, length, vec_len, vec_capacity}
use Rattle.tile_book.specs.Machine.{replies_of, after_all}
use Rattle.tile_book.proofs.desk_core.Core.replay.Given as goal

abbrev pub invariant-loop-event : goal.invariant-loop-event
invariant-loop-event g l =
    (l.replies.items ++ replies_of l.self (drop l.event-index l.events) ≡ replies_of l.fn.self l.events)
    × (after_all l.self (drop l.event-index l.events) ≡ after_all l.fn.self l.events)
    × (vec_len l.replies ≡ l.event-index)
    × (length l.events ≤ vec_capacity l.replies)
