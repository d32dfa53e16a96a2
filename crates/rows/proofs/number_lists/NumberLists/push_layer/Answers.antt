use Rattle.std.proofs.Common.{◌≡◌, ◌∙◌, ◌++◌, ℕ, List, ap, get_or, map, subst, take}
use Rattle.std.specs.Prelude.{filter}
use Rattle.faces_text.specs.Text.{is_of_layer}
use Rattle.faces_text.proofs.Fields.{all_from_first}
use Rattle.rows.specs.Made.{row_of}
use Rattle.rows.specs.declared.parts.Row.{Row}
use Rattle.rows.specs.RowColumns.{HaveLists, layer_lists}
use Rattle.rows.proofs.Behind.{next_row}
use Rattle.rows.proofs.number_lists.NumberLists.push_layer.Goals as goal

pub push-requires : goal.push-requires
push-requires g c = all_from_first c.args.first c.args.past c.deref.result.now c.of_layer.result.now c.of_layer.ensures

pub loop-row-preserved : goal.loop-row-preserved
loop-row-preserved g c = λ lists h.
    let first = c.args.first in
    let past = c.args.past in
    let rows = c.args.rows.now in
    let i = c.loop-row.row-index in
    let row = c.row-item.result in
    let is : c.of_layer.result.now ≡ filter (is_of_layer first past) (get_or rows i row).features.items =
    c.of_layer.ensures ∙ ap (filter (is_of_layer first past)) (c.deref.ensures.value ∙ ap (λ (r : Row g.row.B.Denot). r.features.items) c.row-item.is) in
    subst (λ (ls : List (List ℕ)). HaveLists ls c.push.new.self) (next_row lists first past rows i row c.of_layer.result.now c.loop-row-test.true is)
    (c.in_ok-push.ensures (lists ++ layer_lists first past (map row_of (take i rows))) (c.loop-row.invariant lists h))
