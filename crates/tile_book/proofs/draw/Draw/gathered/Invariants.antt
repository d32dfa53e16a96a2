use Rattle.std.proofs.Common.{◌≡◌, List, [], ◌++◌, length, flat_map}
use Rattle.tile_book.specs.Drawing.{ticket}
use Rattle.tile_book.specs.Shown.{HandView}
use Rattle.tile_book.proofs.draw.Draw.gathered.Given as goal

-- the hands that were taken in are the last ones
abbrev pub invariant-loop-hand : goal.invariant-loop-hand
invariant-loop-hand g l =
    (l.all.table_id ≡ l.self.table) × (l.all.me.1 ≡ [])
    × ((rest : List HandView) × (l.initial.hands.items ≡ l.hands.items ++ rest) × (l.all.me.0 ≡ ticket l.self.limit l.self.hands (length rest) (length rest) (flat_map (λ h. h.drawn) rest)))

abbrev pub decreases-loop-hand : goal.decreases-loop-hand
decreases-loop-hand g l = goal.left-loop-hand g l
