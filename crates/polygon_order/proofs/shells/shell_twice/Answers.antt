use Rattle.std.proofs.Common.{[]}
use Rattle.polygon_order.specs.declared.shells.Shell.{Shell}
use Rattle.polygon_order.proofs.ShellOrder.{all_distinct, neighbours_more, same_neighbours}
use Rattle.polygon_order.proofs.shells.shell_twice.Goals as goal

abbrev blank : Shell
blank = record { coordinates = record { ref_ptr = (0, 0); now = [] }; number = 0 }

pub returns-then-eq : goal.returns-then-eq
returns-then-eq c =
    let place = c.loop-place.place in
    same_neighbours c.args.columns c.args.shells.now place blank c.compare.result c.requires.shells c.loop-place.auto.place c.loop-place-test.true
    c.compare.ensures.points c.if-eq.ensures

pub loop-place-preserved : goal.loop-place-preserved
loop-place-preserved c =
    let place = c.loop-place.place in
    neighbours_more c.args.columns c.args.shells.now place blank c.compare.result c.requires.shells c.requires.sorted c.loop-place.auto.place c.loop-place-test.true
    c.compare.ensures.points c.if-eq.ensures c.loop-place.invariant

pub returns : goal.returns
returns c = all_distinct c.args.columns c.args.shells.now c.loop-place.place c.loop-place-test.false c.loop-place.invariant
