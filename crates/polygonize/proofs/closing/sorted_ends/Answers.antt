use Rattle.std.proofs.Common.{◌∙◌, ap, length, sym, subst, List}
use Rattle.std.specs.Prelude.{IsPermutation}
use Rattle.std.proofs.lemmas.List.{with_items_is}
use Rattle.polygonize.specs.declared.closing.EdgeEnd.{EdgeEnd}
use Rattle.polygonize.proofs.ClosedVertices.Ends.{sorted_both}
use Rattle.polygonize.proofs.closing.sorted_ends.Goals as goal

pub returns : goal.returns
returns g c =
    let same = c.as_mut_slice.ensures.value in
    let back = with_items_is c.in_ok-ends.ends c.sort.new.ends (c.sort.ensures.len ∙ ap length same ∙ sym c.in_ok-ends.ends.ok.0) in
    rw back (sorted_both c.args.edges.now c.in_ok-ends.ends.items c.sort.new.ends c.in_ok-ends.ensures
    (subst (λ (xs : List EdgeEnd). IsPermutation xs c.sort.new.ends) same c.sort.ensures.permutation) c.sort.ensures.sorted)
