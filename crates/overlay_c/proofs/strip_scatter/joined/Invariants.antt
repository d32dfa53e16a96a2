use Rattle.std.proofs.Common.{◌≡◌, map, take}
use Rattle.columns.specs.Answers.{offsets_from}
use Rattle.columns.specs.Layout.{joined}
use Rattle.phases.specs.Scattered.{lists_of}
use Rattle.overlay_c.specs.Strips.{told_line}
use Rattle.overlay_c.proofs.strip_scatter.joined.Given as goal

abbrev pub invariant-loop-lines : goal.invariant-loop-lines
invariant-loop-lines l = (l.all.lines.items ≡ map told_line (joined (take l.lines-index (lists_of l.lists)))) × (l.all.strips.items ≡ offsets_from 0 (take l.lines-index (lists_of l.lists)))
