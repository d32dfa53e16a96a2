use Rattle.std.proofs.Common.{◌≡◌, ◌+◌, ◌++◌, map, take}
use Rattle.wkt.proofs.feature_lines.push_shifted.Given as goal

-- the starts so far
abbrev pub invariant-loop-start : goal.invariant-loop-start
invariant-loop-start g l = l.starts.items ≡ l.fn.starts.items ++ map (λ s. s + l.before) (take l.start-index l.more)
