use Rattle.std.proofs.Common.{◌≡◌, ◌++◌, map, take}
use Rattle.overlay_c.specs.Strips.{told_line}
use Rattle.overlay_c.proofs.strip_scatter.push_strip.Given as goal

abbrev pub invariant-loop-line : goal.invariant-loop-line
invariant-loop-line l = (l.all.lines.items ≡ l.fn.all.lines.items ++ map told_line (take l.line-index l.lines)) × (l.all.strips.items ≡ l.fn.all.strips.items)
