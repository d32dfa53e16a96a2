use Rattle.std.proofs.Common.{◌≡◌, take}
use Rattle.strips_law.specs.Strips.{segments_of}
use Rattle.phases.proofs.strip_records.segments_of.Given as goal

abbrev pub invariant-loop-line : goal.invariant-loop-line
invariant-loop-line g l = l.segments.items ≡ segments_of (take l.line-index l.lines)
