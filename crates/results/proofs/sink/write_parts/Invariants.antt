use Rattle.std.proofs.Common.{◌≡◌, flat_map, take}
use Rattle.results.specs.Sinks.{SentUnfinished}
use Rattle.results.proofs.sink.write_parts.Given as goal

abbrev pub invariant-loop-part : goal.invariant-loop-part
invariant-loop-part g l = record {
  same_count : (g.S.Sink.state l.sink).failed ≡ (g.S.Sink.state l.fn.sink).failed;
  sent : SentUnfinished (g.S.Sink.state l.fn.sink) (g.S.Sink.state l.sink) (flat_map (λ p. p.items) (take l.part-index l.parts));
}
