use Rattle.std.proofs.Common.{◌+◌, ◌^◌, ◌<◌}
use Rattle.wkt.specs.Running.{PassesDigits}
use Rattle.wkt.proofs.runs.with_digits.Given as goal

abbrev pub invariant-loop-index : goal.invariant-loop-index
invariant-loop-index l = (l.magnitude < 10 ^ (l.index + 1)) × PassesDigits l.text l.at (l.at + l.index) l.fn.number (record l.fn.number { magnitude = l.magnitude })
