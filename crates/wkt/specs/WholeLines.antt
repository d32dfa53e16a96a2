-- Parts of a text that are whole lines (own).
use Rattle.std.specs.Prelude.{◌≡◌, ◌<◌, ◌≤◌, ◌-◌, ℕ, List, length, slice_index}
use Rattle.hands.specs.declared.part.Part.{Part}

-- the part isn't empty, and ends behind a line feed, or behind the one that is thought behind the text
pub record AreWholeLines (text : List ℕ) (p : Part) : Type 0 where
  pub some : p.from < p.past
  pub ends : p.past ≤ length text → slice_index text (p.past - 1) ≡ 10
