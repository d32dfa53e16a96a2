use Rattle.std.proofs.Common.{◌≡◌, ◌∙◌, List, ap, map, subst, sym}
use Rattle.std.specs.List.Sorted.{IsPermutation}
use Rattle.std.proofs.lemmas.List.Sorted.{IsPermutation-map}
use Rattle.rows.specs.declared.ends.Ends.{Ends}
use Rattle.rows.specs.declared.runs.RowSet.{RowSet}
use Rattle.rows.proofs.ends.nearly_in_order.Goals as goal

pub returns : goal.returns
returns g c =
    let f : Ends → RowSet = λ e. e.row_set in
    let sorted = c.sorted-all.result.items in
    let moved : IsPermutation (map f c.in_ok-all.all.items) (map f sorted) = IsPermutation-map f c.in_ok-all.all.items sorted c.sorted-all.ensures.permutation in
    let listed : c.in_ok-list.list.items ≡ map f sorted = c.in_ok-list.ensures ∙ ap (map f) c.deref.ensures.value in
    subst (λ (rs : List RowSet). IsPermutation c.args.row_sets.now rs) (sym listed) (subst (λ (rs : List RowSet). IsPermutation rs (map f sorted)) c.in_ok-all.ensures moved)
