-- How a share grows beside a hand's list.
use Rattle.tile_book.specs.declared.worker.WorkOutcome.{WorkOutcome}
use Rattle.std.specs.Prelude.{◌≡◌, true, length, IfNone, ℕ, ◌+◌, Option, Some, None}

-- 1 where a piece was not made
abbrev pub one_if_fault : {A : Type 0} → Option A → ℕ
one_if_fault None = 0
one_if_fault (Some a) = 1

-- of a new share and a new hand: the share has what was drawn, less what came back and what was not made, and the hand is spent
abbrev pub HasGrown : {L : Type 0} → WorkOutcome L → Type 0
HasGrown r = (r.share + r.returned + one_if_fault r.fault ≡ length r.hand.drawn) × IfNone r.fault (r.hand.spent ≡ true)
