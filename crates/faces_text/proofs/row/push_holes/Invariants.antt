use Rattle.std.proofs.Common.{◌≡◌, ◌++◌, take}
use Rattle.faces_text.specs.Line.{holes_text}
use Rattle.faces_text.proofs.row.push_holes.Given as goal

abbrev pub invariant-loop-hole : goal.invariant-loop-hole
invariant-loop-hole g l = l.text.items ≡ l.fn.text.items ++ holes_text (take l.hole-index l.holes)
