-- The size of a tree is that of its set.
use Rattle.cover_sets.proofs.TreeLaws.{tree_size}
use Rattle.cover_sets.proofs.sets.Sets.len.Goals as goal

pub returns : goal.returns
returns g c = tree_size c.args.self.now c.args.set c.tree_at.result c.tree_at.ensures c.if-set-ge-ALONE.false
