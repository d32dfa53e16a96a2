use Rattle.std.specs.Prelude.{slice_range}
use Rattle.label_sweep.proofs.Turning.{limit_at}
use Rattle.label_sweep.proofs.turn.list_spokes.Goals as goal

pub invariant_of-push : goal.invariant_of-push
invariant_of-push g c = record { in_limit = limit_at (slice_range c.args.counted.now c.args.from c.args.next) c.requires.in_limit c.loop-one.one-index c.one-item.result c.loop-one-test.true c.one-item.is }
