use Rattle.std.proofs.Common.{◌≡◌, length}
use Rattle.face_label.specs.Strip.{AreStriped}
use Rattle.face_label.proofs.strip.edges_by_strip.Given as goal

abbrev pub invariant-loop-strip : goal.invariant-loop-strip
invariant-loop-strip g l = (length l.found.items ≡ l.strip) × AreStriped l.edges l.strips l.found.items
