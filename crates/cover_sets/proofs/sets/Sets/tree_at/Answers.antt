-- A tree that is kept is the tree of its number.
use Rattle.std.proofs.Common.{◌<◌, List, sym, subst, length, get_or}
use Rattle.std.specs.HashMap.{get}
use Rattle.std.specs.Prelude.{nat_eq}
use Rattle.cover_sets.specs.declared.tree.Tree.{Tree}
use Rattle.cover_sets.specs.Trees.{IsTree}
use Rattle.cover_sets.proofs.Kept.{read_tree, read_within}
use Rattle.cover_sets.proofs.sets.Sets.tree_at.Goals as goal

pub bounds-trees-set : goal.bounds-trees-set
bounds-trees-set g c =
    subst (λ (ts : List Tree). c.args.set < length ts) (sym c.deref-trees.ensures.value)
    (read_within c.self.inside.trees.items (get nat_eq c.self.inside.table) c.args.self.now c.self.invariant c.self.view_is c.args.set c.requires.known c.requires.tree)

pub returns : goal.returns
returns g c =
    let l = read_within c.self.inside.trees.items (get nat_eq c.self.inside.table) c.args.self.now c.self.invariant c.self.view_is c.args.set c.requires.known c.requires.tree in
    subst (λ (ts : List Tree). IsTree c.args.self.now c.args.set (get_or ts c.args.set (record { low = 0; high = 0; levels = 0; member = 0; size = 0 }))) (sym c.deref-trees.ensures.value)
    (read_tree c.self.inside.trees.items (get nat_eq c.self.inside.table) c.args.self.now c.self.invariant c.self.view_is c.args.set (record { low = 0; high = 0; levels = 0; member = 0; size = 0 }) l)
