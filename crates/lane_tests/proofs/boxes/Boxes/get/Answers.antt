use Rattle.std.proofs.Common.{◌∙◌, ap, arith, length, subst, sym}
use Rattle.std.specs.Prelude.{◌≤ℤ◌}
use Rattle.lane_tests.specs.Columns.{Ends}
use Rattle.lane_tests.proofs.Rects.{high_at, pair_of, rect_at, room, same_columns, same_pair, wide_at}
use Rattle.lane_tests.proofs.boxes.Boxes.get.Goals as goal

pub box_at-requires-clause-columns : goal.box_at-requires-clause-columns
box_at-requires-clause-columns g c = same_columns _ _ _ _ _ _ _ _ c.columns.invariant c.deref.ensures.value c.deref-2.ensures.value c.deref-3.ensures.value c.deref-4.ensures.value

pub box_at-requires-clause-in_range : goal.box_at-requires-clause-in_range
box_at-requires-clause-in_range g c =
    let r = room _ _ _ _ c.self.inside.columns c.self.inside.are_rects c.args.self.now c.columns.invariant c.columns.view_is c.self.view_is in
    let l = ap length c.deref.ensures.value in
    omega (arith, r, l, c.requires)

pub box_at-requires-clause-wide : goal.box_at-requires-clause-wide
box_at-requires-clause-wide g c =
    subst (λ (p : Ends). p.0.x ≤ℤ p.1.x) (sym (same_pair _ _ _ _ _ _ _ _ c.args.number c.deref.ensures.value c.deref-2.ensures.value c.deref-3.ensures.value c.deref-4.ensures.value))
    (wide_at _ _ _ _ c.self.inside.columns c.columns.invariant c.columns.view_is c.self.inside.are_rects c.args.number)

pub box_at-requires-clause-high : goal.box_at-requires-clause-high
box_at-requires-clause-high g c =
    subst (λ (p : Ends). p.0.y ≤ℤ p.1.y) (sym (same_pair _ _ _ _ _ _ _ _ c.args.number c.deref.ensures.value c.deref-2.ensures.value c.deref-3.ensures.value c.deref-4.ensures.value))
    (high_at _ _ _ _ c.self.inside.columns c.columns.invariant c.columns.view_is c.self.inside.are_rects c.args.number)

pub returns : goal.returns
returns g c =
    rect_at c.self.inside.columns c.self.inside.are_rects c.args.self.now c.args.number c.box_at.result c.self.view_is c.requires
    (c.box_at.ensures ∙ same_pair _ _ _ _ _ _ _ _ c.args.number c.deref.ensures.value c.deref-2.ensures.value c.deref-3.ensures.value c.deref-4.ensures.value ∙ pair_of _ _ _ _ c.self.inside.columns c.columns.invariant c.columns.view_is c.args.number)
