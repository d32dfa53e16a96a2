-- The parts of a tree that splits there are its own; any other set lies in one half.
use Rattle.std.proofs.Common.{◌+◌, ◌/◌, ◌^◌, sym, arith}
use Rattle.geom.proofs.Lists.{contains_in}
use Rattle.cover_sets.specs.Sets.{set_of}
use Rattle.cover_sets.proofs.Blocks.{at_block, block_more, in_high, in_low}
use Rattle.cover_sets.proofs.Numbered.{number_within}
use Rattle.cover_sets.proofs.TreeLaws.{part_is_number, tree_block, tree_halves, tree_least, tree_set}
use Rattle.cover_sets.proofs.sets.Sets.parts.Goals as goal

pub tree_at-tree-requires : goal.tree_at-tree-requires
tree_at-tree-requires g c = record { known = c.requires.known; tree = c.head-head.ensures.tree (let l = c.if-head-level.true in omega arith) }

pub returns-then-head-level-clause-low : goal.returns-then-head-level-clause-low
returns-then-head-level-clause-low g c =
    let b = c.head-head.ensures.tree (let l = c.if-head-level.true in omega arith) in
    part_is_number c.args.self.now c.args.set c.tree_at-tree.result.low (number_within c.args.self.now c.args.set c.requires.known b) b c.tree_at-tree.ensures.low

pub returns-then-head-level-clause-high : goal.returns-then-head-level-clause-high
returns-then-head-level-clause-high g c =
    let b = c.head-head.ensures.tree (let l = c.if-head-level.true in omega arith) in
    part_is_number c.args.self.now c.args.set c.tree_at-tree.result.high (number_within c.args.self.now c.args.set c.requires.known b) b c.tree_at-tree.ensures.high

pub returns-then-head-level-clause-both : goal.returns-then-head-level-clause-both
returns-then-head-level-clause-both g c = sym (tree_set c.args.self.now c.args.set c.tree_at-tree.result c.tree_at-tree.ensures (c.head-head.ensures.tree (let l = c.if-head-level.true in omega arith)))

pub returns-then-head-level-clause-low_block : goal.returns-then-head-level-clause-low_block
returns-then-head-level-clause-low_block g c =
    let t = c.tree_at-tree.result in
    let is = c.tree_at-tree.ensures in
    let b = c.head-head.ensures.tree (let l = c.if-head-level.true in omega arith) in
    let most = tree_least c.args.self.now c.args.set t is b (c.args.level + 1) c.requires.block in
    let least = c.head-head.ensures.least t.levels (t.member / 2 ^ t.levels, tree_block c.args.self.now c.args.set t is b) in
    λ p k. (tree_halves c.args.self.now c.args.set t is b c.args.level p (let l = c.if-head-level.true in omega arith) k).0

pub returns-then-head-level-clause-high_block : goal.returns-then-head-level-clause-high_block
returns-then-head-level-clause-high_block g c =
    let t = c.tree_at-tree.result in
    let is = c.tree_at-tree.ensures in
    let b = c.head-head.ensures.tree (let l = c.if-head-level.true in omega arith) in
    let most = tree_least c.args.self.now c.args.set t is b (c.args.level + 1) c.requires.block in
    let least = c.head-head.ensures.least t.levels (t.member / 2 ^ t.levels, tree_block c.args.self.now c.args.set t is b) in
    λ p k. (tree_halves c.args.self.now c.args.set t is b c.args.level p (let l = c.if-head-level.true in omega arith) k).1

pub returns-then-head-level-eq0-clause-low_block : goal.returns-then-head-level-eq0-clause-low_block
returns-then-head-level-eq0-clause-low_block g c =
    let set = set_of c.args.self.now c.args.set in
    let head = c.head-head.result in
    let i = contains_in set head.member c.head-head.ensures.member in
    λ p k. in_low c.args.level p head.member set (block_more head.levels c.args.level set head.member (let l = c.if-head-level.false in omega arith) c.head-head.ensures.block) (at_block (c.args.level + 1) p set k head.member i) (omega arith)

pub returns-else-head-level-eq0-clause-high_block : goal.returns-else-head-level-eq0-clause-high_block
returns-else-head-level-eq0-clause-high_block g c =
    let set = set_of c.args.self.now c.args.set in
    let head = c.head-head.result in
    let i = contains_in set head.member c.head-head.ensures.member in
    λ p k. in_high c.args.level p head.member set (block_more head.levels c.args.level set head.member (let l = c.if-head-level.false in omega arith) c.head-head.ensures.block) (at_block (c.args.level + 1) p set k head.member i) (λ e. omega arith)
