use Rattle.std.proofs.Common.{◌≡◌, ◌+◌, List, take}
use Rattle.strips_law.specs.declared.line.Line.{Line}
use Rattle.strips_law.specs.Strips.{AreLinesFrom}
use Rattle.phases.specs.Scattered.{AreByStrip, lists_of}
use Rattle.phases.proofs.lines.scatter.Given as goal

abbrev pub invariant-loop-s : goal.invariant-loop-s
invariant-loop-s g l = (l.number ≡ l.fn.first_number + l.s-index) × ((lines : List Line) × AreLinesFrom l.fn.first_number (take l.s-index l.segments) lines × AreByStrip l.cuts lines (lists_of l.lists.items))
