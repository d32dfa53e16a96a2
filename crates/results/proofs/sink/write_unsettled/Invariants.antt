use Rattle.std.proofs.Common.{length, take, ◌-◌, ◌≡◌, ◌≤◌}
use Rattle.results.specs.Sinks.{bytes_after, mark_after}
use Rattle.results.proofs.sink.write_unsettled.Given as goal

abbrev pub invariant-loop-at : goal.invariant-loop-at
invariant-loop-at g l = record {
  within : l.at ≤ length l.text;
  same_count : (g.S.Sink.state l.sink).failed ≡ (g.S.Sink.state l.fn.sink).failed;
  marked : (g.S.Sink.state l.sink).settled ≡ mark_after (g.S.Sink.state l.fn.sink).settled (take l.at l.text);
  beginning_taken : (g.S.Sink.state l.sink).taken ≡ bytes_after (g.S.Sink.state l.fn.sink).taken (take l.at l.text);
}

abbrev pub decreases-loop-at : goal.decreases-loop-at
decreases-loop-at g l = length l.text - l.at
