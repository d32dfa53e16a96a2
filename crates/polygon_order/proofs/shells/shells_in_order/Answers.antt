use Rattle.std.proofs.Common.{◌∙◌, ◌+◌, ◌-◌, List, arith, subst, sym}
use Rattle.std.specs.List.Sorted.{IsPermutation}
use Rattle.std.proofs.lemmas.List.{with_items_is}
use Rattle.std.proofs.lemmas.List.Elements.{All-push}
use Rattle.std.proofs.lemmas.List.Sorted.{length_permutation}
use Rattle.polygon_order.specs.declared.shells.Shell.{Shell}
use Rattle.polygon_order.specs.Shells.{IsShellOf}
use Rattle.polygon_order.proofs.ShellOrder.{numbers_more, shells_sorted}
use Rattle.polygon_order.proofs.shells.shells_in_order.Goals as goal

pub loop-number-preserved : goal.loop-number-preserved
loop-number-preserved g c =
    let found = c.loop-number.found.items in
    let s = c.shell_of.result in
    let number = c.loop-number.number in
    let items = c.in_ok-push.ensures.items in
    record {
      are = rw items (All-push (IsShellOf c.args.columns) found s c.loop-number.invariant.are c.shell_of.ensures.shell);
      numbers = rw items (numbers_more found s (number - 1) (number + 1 - 1) c.loop-number.invariant.numbers c.shell_of.ensures.number (omega arith));
      within = omega arith;
    }

pub returns-clause-shells : goal.returns-clause-shells
returns-clause-shells g c =
    let found = c.loop-number.found in
    let sorted = c.sort.new.shells in
    let moved = subst (λ (xs : List Shell). IsPermutation xs sorted) c.as_mut_slice.ensures.value c.sort.ensures.permutation in
    let back = with_items_is found sorted (length_permutation found.items sorted moved ∙ sym found.ok.0) in
    rw back (shells_sorted c.args.columns found.items sorted (c.loop-number.number - 1)
    c.loop-number.invariant.are c.loop-number.invariant.numbers (omega arith) moved)
