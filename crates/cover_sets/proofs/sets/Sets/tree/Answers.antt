-- What the table finds is the set of both parts, and otherwise their tree is added.
use Rattle.std.proofs.Common.{rules, ◌≡◌, ℕ, ◌+◌, ◌<◌, ◌++◌, List, sym, ap, ◌∙◌, subst, arith, length}
use Rattle.std.specs.HashMap.{get}
use Rattle.std.specs.Map.{lookup}
use Rattle.std.specs.Prelude.{nat_eq, Some, None}
use Rattle.cover_sets.specs.declared.tree.Tree.{Tree}
use Rattle.cover_sets.specs.Sets.{AreSets, IsListed, Keeps, set_of}
use Rattle.cover_sets.specs.Trees.{AreTrees, sets_of}
use Rattle.cover_sets.proofs.Kept.{read_sets}
use Rattle.cover_sets.proofs.Numbered.{keeps_more}
use Rattle.cover_sets.proofs.NextTree.{added_trees, both_few, found_both, number_of_added, sets_added}
use Rattle.cover_sets.proofs.sets.Sets.tree.Goals as goal

pub returns-in-Some-clause-set : goal.returns-in-Some-clause-set
returns-in-Some-clause-set g c = found_both c.self.inside.trees.items (get nat_eq c.self.inside.table) c.args.self.now c.self.invariant c.self.view_is c.args.low c.args.high c.requires.low c.requires.high c.in-Some.number.now
    (subst (λ (k : ℕ). get nat_eq c.self.inside.table k ≡ Some c.in-Some.number.now) c.key_of.ensures (sym c.in-Some.ensures.value))

pub overflow_add-size : goal.overflow_add-size
overflow_add-size g c =
    let sets = read_sets c.self.inside.trees.items (get nat_eq c.self.inside.table) c.args.self.now c.self.invariant c.self.view_is in
    let few = both_few c.args.self.now sets c.args.low c.args.high c.requires.low c.requires.high c.args.levels c.requires.splits in
    omega (arith, c.len.ensures, c.len-2.ensures)

pub invariant_of-self : goal.invariant_of-self
invariant_of-self g c =
    subst (λ (ts : List Tree). AreTrees ts (get nat_eq c.add.new.table)) (sym c.in_err-number.ensures.same_trees)
    (subst (λ es. AreTrees c.self.inside.trees.items (λ k. lookup (nat_eq k) es)) (sym c.in_err-number.ensures.same_table) c.self.invariant)

pub invariant_of-self-2 : goal.invariant_of-self-2
invariant_of-self-2 g c =
    let t : Tree = record { low = c.args.low; high = c.args.high; levels = c.args.levels; member = c.head-member.result.member; size = c.len-2.result + c.len-3.result } in
    subst (λ (ts : List Tree). AreTrees ts (get nat_eq c.add.new.table)) (sym c.in_ok-number.ensures.trees)
    (added_trees c.self.inside.trees.items (get nat_eq c.self.inside.table) (get nat_eq c.add.new.table) c.args.self.now t c.self.invariant c.self.view_is (search rules) c.requires.low c.requires.high c.requires.some_low c.requires.some_high
    c.requires.levels c.requires.splits c.head-member.ensures.member (ap (λ (n : ℕ). n + c.len-3.result) c.len-2.ensures ∙ ap (λ (n : ℕ). length (set_of c.args.self.now c.args.low) + n) c.len-3.ensures)
    (subst (λ (k : ℕ). get nat_eq c.self.inside.table k ≡ None) c.key_of.ensures (sym c.in-None.ensures.value)) c.in_ok-number.ensures.table.0)

pub returns-clause-keeps : goal.returns-clause-keeps
returns-clause-keeps g c =
    let t : Tree = record { low = c.args.low; high = c.args.high; levels = c.args.levels; member = c.head-member.result.member; size = c.len-2.result + c.len-3.result } in
    subst (λ (ts : List Tree). Keeps c.args.self.now (sets_of ts)) (sym c.in_ok-number.ensures.trees)
    (subst (Keeps c.args.self.now) (sym (sets_added c.self.inside.trees.items c.args.self.now t c.self.view_is)) (keeps_more c.args.self.now (set_of c.args.self.now c.args.low ++ set_of c.args.self.now c.args.high)))

pub returns-clause-sets : goal.returns-clause-sets
returns-clause-sets g c =
    let t : Tree = record { low = c.args.low; high = c.args.high; levels = c.args.levels; member = c.head-member.result.member; size = c.len-2.result + c.len-3.result } in
    subst (λ (ts : List Tree). AreSets (sets_of ts)) (sym c.in_ok-number.ensures.trees)
    (added_trees c.self.inside.trees.items (get nat_eq c.self.inside.table) (get nat_eq c.add.new.table) c.args.self.now t c.self.invariant c.self.view_is (search rules) c.requires.low c.requires.high c.requires.some_low c.requires.some_high
    c.requires.levels c.requires.splits c.head-member.ensures.member (ap (λ (n : ℕ). n + c.len-3.result) c.len-2.ensures ∙ ap (λ (n : ℕ). length (set_of c.args.self.now c.args.low) + n) c.len-3.ensures)
    (subst (λ (k : ℕ). get nat_eq c.self.inside.table k ≡ None) c.key_of.ensures (sym c.in-None.ensures.value)) c.in_ok-number.ensures.table.0).sets

pub returns-clause-set : goal.returns-clause-set
returns-clause-set g c =
    let t : Tree = record { low = c.args.low; high = c.args.high; levels = c.args.levels; member = c.head-member.result.member; size = c.len-2.result + c.len-3.result } in
    let both = set_of c.args.self.now c.args.low ++ set_of c.args.self.now c.args.high in
    let few : length c.self.inside.trees.items < 2147483648 = search rules in
    subst (λ (ts : List Tree). IsListed (sets_of ts) both c.in_ok-number.number) (sym c.in_ok-number.ensures.trees)
    (subst (λ (U : List (List ℕ)). IsListed U both c.in_ok-number.number) (sym (sets_added c.self.inside.trees.items c.args.self.now t c.self.view_is))
    (number_of_added c.self.inside.trees.items (get nat_eq c.self.inside.table) c.args.self.now both c.self.invariant c.self.view_is few c.in_ok-number.number c.in_ok-number.ensures.number))
