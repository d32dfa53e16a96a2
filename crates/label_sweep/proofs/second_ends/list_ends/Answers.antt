use Rattle.std.proofs.Common.{◌∙◌}
use Rattle.label_sweep.proofs.StripEnds.{all_listed, more_listed}
use Rattle.label_sweep.proofs.second_ends.list_ends.Goals as goal

pub loop-one-preserved : goal.loop-one-preserved
loop-one-preserved g c = more_listed c.args.columns c.args.counted.now c.loop-one.one-index c.one-item.result c.loop-one-test.true c.one-item.is c.loop-one.ends.items c.add_end.new.ends.items c.loop-one.invariant c.in_ok-add_end.ensures

pub returns : goal.returns
returns g c = c.loop-one.invariant ∙ all_listed c.args.columns c.args.counted.now c.loop-one.one-index c.loop-one-test.false
