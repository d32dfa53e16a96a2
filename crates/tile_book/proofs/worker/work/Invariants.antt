use Rattle.std.proofs.Common.{◌≡◌, ◌+◌, ◌-◌, ◌≤◌, length}
use mathlib.Core.List.{IsPrefix}
use Rattle.tile_book.proofs.Above.{above}
use Rattle.tile_book.proofs.worker.work.Given as goal

abbrev pub invariant-loop-number : goal.invariant-loop-number
invariant-loop-number g l =
    (l.hand.draw ≡ l.draw)
    × (l.share + l.returned + length l.initial.hand.drawn ≡ l.initial.share + length l.hand.drawn)
    × (l.returned + above l.initial.hand.drawn ≤ above l.hand.drawn)
    × IsPrefix l.initial.hand.drawn l.hand.drawn

abbrev pub decreases-loop-number : goal.decreases-loop-number
decreases-loop-number g l = l.draw.limit - above l.hand.drawn
