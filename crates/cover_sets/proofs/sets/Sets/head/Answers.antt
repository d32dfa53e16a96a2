-- The tree of a set has a member, and the least block.
use Rattle.std.proofs.Common.{arith}
use Rattle.cover_sets.proofs.TreeLaws.{tree_block, tree_least, tree_member, tree_some_levels}
use Rattle.cover_sets.proofs.sets.Sets.head.Goals as goal

pub returns-clause-member : goal.returns-clause-member
returns-clause-member g c = tree_member c.args.self.now c.args.set c.tree_at-tree.result c.tree_at-tree.ensures c.if-set-ge-ALONE.false

pub returns-clause-block : goal.returns-clause-block
returns-clause-block g c = tree_block c.args.self.now c.args.set c.tree_at-tree.result c.tree_at-tree.ensures c.if-set-ge-ALONE.false

pub returns-clause-least : goal.returns-clause-least
returns-clause-least g c = tree_least c.args.self.now c.args.set c.tree_at-tree.result c.tree_at-tree.ensures c.if-set-ge-ALONE.false

pub returns-clause-alone : goal.returns-clause-alone
returns-clause-alone g c =
    let some = tree_some_levels c.args.self.now c.args.set c.tree_at-tree.result c.tree_at-tree.ensures c.if-set-ge-ALONE.false in
    λ e. absurd (omega arith)
