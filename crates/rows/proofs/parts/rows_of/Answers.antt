use Rattle.std.proofs.Common.{◌≡◌, ◌∙◌, ℕ, List, ap, subst, sym}
use Rattle.std.specs.List.{All, AllZip}
use Rattle.std.specs.List.Sorted.{IsPermutation}
use Rattle.std.specs.Prelude.{slice_range}
use Rattle.std.proofs.lemmas.List.Sorted.{All-permutation}
use Rattle.rows.specs.Made.{IsBound, IsRowOf}
use Rattle.rows.specs.declared.edges.RowEdge.{RowEdge}
use Rattle.rows.specs.declared.runs.RowSet.{RowSet}
use Rattle.rows.proofs.Making.{are_rows, areas_are, numbers_are}
use Rattle.rows.proofs.Zips.{whole_range}
use Rattle.rows.proofs.parts.rows_of.Goals as goal

pub nearly_in_order-requires : goal.nearly_in_order-requires
nearly_in_order-requires g c = numbers_are c.args.sets.now c.args.row_edges.now.edges.items c.deref.result.now (subst (λ (rs : List RowSet). All (IsBound c.args.sets.now c.args.row_edges.now.edges.items) rs) (sym c.deref.ensures.value) c.requires.bound)

pub rows_of_part-requires-clause-bound : goal.rows_of_part-requires-clause-bound
rows_of_part-requires-clause-bound g c =
    let row_sets = c.args.row_edges.now.sets.items in
    let ordered = c.in_ok-row_sets.row_sets.items in
    let again = subst (λ (rs : List RowSet). IsPermutation rs ordered) c.deref.ensures.value c.in_ok-row_sets.ensures in
    subst (λ (x : List RowEdge × List RowSet). All (IsBound c.args.sets.now x.0) x.1) (λ i. (sym c.deref-2.ensures.value i, sym c.deref-3.ensures.value i))
    (All-permutation (IsBound c.args.sets.now c.args.row_edges.now.edges.items) row_sets ordered again c.requires.bound)

pub returns-clause-rows : goal.returns-clause-rows
returns-clause-rows g c count borders h e =
    let made = c.in_ok-rows.rows.items in
    let ordered = c.in_ok-row_sets.row_sets.items in
    let again = subst (λ (rs : List RowSet). IsPermutation rs ordered) c.deref.ensures.value c.in_ok-row_sets.ensures in
    let all : slice_range c.deref-3.result.now 0 c.len.result ≡ ordered = ap (λ (n : ℕ). slice_range c.deref-3.result.now 0 n) (c.len.ensures ∙ sym c.deref-3.ensures.len) ∙ whole_range c.deref-3.result.now ∙ c.deref-3.ensures.value in
    are_rows count borders h c.args.sets.now c.args.row_edges.now.edges.items c.args.row_edges.now.sets.items ordered c.requires.are_sets e c.requires.are_row_sets again made c.in_order.result.items
    (subst (λ (x : List RowEdge × List RowSet). AllZip (IsRowOf {M = g.row.A.Denot} c.args.sets.now x.0) x.1 made) (λ i. (c.deref-2.ensures.value i, all i)) c.in_ok-rows.ensures)
    c.in_order.ensures.permutation c.in_order.ensures.sorted

pub returns-clause-areas : goal.returns-clause-areas
returns-clause-areas g c = areas_are c.args.sets.now c.deref-2.result.now (slice_range c.deref-3.result.now 0 c.len.result) c.in_ok-rows.rows.items c.in_order.result.items c.in_ok-rows.ensures c.in_order.ensures.permutation
