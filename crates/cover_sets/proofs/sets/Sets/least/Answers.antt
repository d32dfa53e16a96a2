-- The low part of a tree begins as its set does.
use Rattle.std.specs.HashMap.{get}
use Rattle.std.specs.Prelude.{nat_eq}
use Rattle.cover_sets.proofs.Ends.{begins_low, least_found}
use Rattle.cover_sets.proofs.Kept.{read_sets}
use Rattle.cover_sets.proofs.sets.Sets.least.Goals as goal

pub loop-part-preserved : goal.loop-part-preserved
loop-part-preserved g c = begins_low c.args.self.now c.args.set c.loop-part.part c.tree_at-part.result c.tree_at-part.ensures c.loop-part-test.true c.loop-part.invariant

pub returns : goal.returns
returns g c =
    let sets = read_sets c.self.inside.trees.items (get nat_eq c.self.inside.table) c.args.self.now c.self.invariant c.self.view_is in
    least_found c.args.self.now c.args.set sets c.requires c.loop-part.part c.loop-part-test.false c.loop-part.invariant
