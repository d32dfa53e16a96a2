use Rattle.std.proofs.Common.{map, sym, ◌∙◌, subst}
use Rattle.std.specs.List.{All}
use Rattle.std.proofs.lemmas.Result.{IfOk-weaker}
use Rattle.geom.specs.Rounded.{edges_of}
use Rattle.label_sweep.specs.Swept.{AreSwept}
use Rattle.cover_law.specs.Cover.{bordered}
use Rattle.cover_sets.specs.Covers.{AreCovers}
use Rattle.cover_sets.specs.Sets.{IsNumber}
use Rattle.cover_sets_tests.proofs.Sweeping.{are_layers, are_swept, left_numbers, right_numbers}
use Rattle.cover_sets_tests.proofs.sides.covered.Goals as goal

pub swept_edges-requires : goal.swept_edges-requires
swept_edges-requires g c = are_layers c.args.features.now c.args.borders.now c.deref.result.now (c.deref.ensures.value ∙ c.in_ok-counted.ensures) c.requires.borders

pub covers-requires-clause-swept : goal.covers-requires-clause-swept
covers-requires-clause-swept g c = are_swept c.args.features.now c.args.borders.now c.deref.result.now (c.deref.ensures.value ∙ c.in_ok-counted.ensures) c.deref-2.result.now
    (subst (AreSwept (edges_of c.deref.result.now)) (sym c.deref-2.ensures.value) c.in_ok-swept.ensures)

pub returns-clause-left : goal.returns-clause-left
returns-clause-left g c =
    let edges = map (bordered c.args.features.now) c.args.borders.now in
    IfOk-weaker c.covers.result (λ v. AreCovers 2147483647 edges v.sets v.left.items v.right.items) (λ v. All (IsNumber v.sets) v.left.items)
    (λ v h. left_numbers 2147483647 edges v.sets v.left.items v.right.items h) (c.covers.ensures 2147483647 c.requires.below)

pub returns-clause-right : goal.returns-clause-right
returns-clause-right g c =
    let edges = map (bordered c.args.features.now) c.args.borders.now in
    IfOk-weaker c.covers.result (λ v. AreCovers 2147483647 edges v.sets v.left.items v.right.items) (λ v. All (IsNumber v.sets) v.right.items)
    (λ v h. right_numbers 2147483647 edges v.sets v.left.items v.right.items h) (c.covers.ensures 2147483647 c.requires.below)
