use Rattle.strip_polygons.proofs.RootsInLoops.{climb_on, climbed}
use Rattle.strip_polygons.proofs.classes.root_of.Goals as goal

pub loop-above-preserved : goal.loop-above-preserved
loop-above-preserved c = climb_on c.args.above.now c.loop-above.above c.args.number c.loop-above.at c.loop-above-test.true c.loop-above.invariant

pub returns-clause-root : goal.returns-clause-root
returns-clause-root c =
    climbed c.args.above.now c.loop-above.above c.args.number c.loop-above.at c.requires.forest c.loop-above-test.false c.loop-above.invariant
