use Rattle.std.proofs.Common.{rules, sym, ◌∙◌, List, subst}
use Rattle.std.specs.List.{All, Contains}
use Rattle.std.proofs.lemmas.List.Elements.{All-replicate}
use Rattle.geom.specs.declared.point.Pt.{Pt}
use Rattle.label_sweep.proofs.Ends.{none_ends, some_are}
use Rattle.label_sweep.proofs.vertices.ends_of.Goals as goal

pub returns-then-is_empty : goal.returns-then-is_empty
returns-then-is_empty g c = none_ends c.args.counted.now c.in_ok-ends.ends.items (search rules) c.in_ok-ends.ensures.only

pub add_second_ends-requires-clause-held : goal.add_second_ends-requires-clause-held
add_second_ends-requires-clause-held g c =
    let P : List Pt → Type 0 = All (Contains c.in_ok-ends.ends.items) in
    subst P (sym (c.deref_mut.ensures.value ∙ c.in_ok-held.ensures.items_if_clones_equal (λ y h. h))) (All-replicate (Contains c.in_ok-ends.ends.items) _ _ (c.in_ok-ends.ensures.all 0 _ (some_are _ c.if-is_empty.ensures)))
