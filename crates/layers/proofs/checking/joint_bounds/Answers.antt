use Rattle.std.proofs.Common.{ap, ◌∙◌}
use Rattle.std.proofs.Math.IntN.{ℤ}
use Rattle.std.specs.Int.{int_max, int_min}
use Rattle.layers.proofs.JointBounds.{both_bounds, first_holds, joined_holds, joined_in_limit, second_holds}
use Rattle.layers.proofs.checking.joint_bounds.Goals as goal

pub returns-in-Some-Some-clause-joint : goal.returns-in-Some-Some-clause-joint
returns-in-Some-Some-clause-joint c =
    let s = c.in-Some-Some.s in
    rw (c.in-Some-Some.is-0, c.in-Some-Some.is-1) (both_bounds c.in-Some-Some.r s c.with-in-Some-Some.result (record {
      left = c.with-in-Some-Some.ensures.left ∙ ap (λ (z : ℤ). int_min z s.hi.x) c.with.ensures.left;
      bottom = c.with-in-Some-Some.ensures.below ∙ ap (λ (z : ℤ). int_min z s.hi.y) c.with.ensures.below;
      right = c.with-in-Some-Some.ensures.right ∙ ap (λ (z : ℤ). int_max z s.hi.x) c.with.ensures.right;
      top = c.with-in-Some-Some.ensures.above ∙ ap (λ (z : ℤ). int_max z s.hi.y) c.with.ensures.above;
    }))

pub returns-in-Some-Some-clause-in_limit : goal.returns-in-Some-Some-clause-in_limit
returns-in-Some-Some-clause-in_limit c =
    let s = c.in-Some-Some.s in
    rw (c.in-Some-Some.is-0, c.in-Some-Some.is-1) (joined_in_limit c.in-Some-Some.r s c.with-in-Some-Some.result (record {
      left = c.with-in-Some-Some.ensures.left ∙ ap (λ (z : ℤ). int_min z s.hi.x) c.with.ensures.left;
      bottom = c.with-in-Some-Some.ensures.below ∙ ap (λ (z : ℤ). int_min z s.hi.y) c.with.ensures.below;
      right = c.with-in-Some-Some.ensures.right ∙ ap (λ (z : ℤ). int_max z s.hi.x) c.with.ensures.right;
      top = c.with-in-Some-Some.ensures.above ∙ ap (λ (z : ℤ). int_max z s.hi.y) c.with.ensures.above;
    }))

pub returns-in-Some-Some-clause-holds : goal.returns-in-Some-Some-clause-holds
returns-in-Some-Some-clause-holds c =
    let s = c.in-Some-Some.s in
    rw (c.in-Some-Some.is-0, c.in-Some-Some.is-1) (joined_holds c.in-Some-Some.r s c.with-in-Some-Some.result (record {
      left = c.with-in-Some-Some.ensures.left ∙ ap (λ (z : ℤ). int_min z s.hi.x) c.with.ensures.left;
      bottom = c.with-in-Some-Some.ensures.below ∙ ap (λ (z : ℤ). int_min z s.hi.y) c.with.ensures.below;
      right = c.with-in-Some-Some.ensures.right ∙ ap (λ (z : ℤ). int_max z s.hi.x) c.with.ensures.right;
      top = c.with-in-Some-Some.ensures.above ∙ ap (λ (z : ℤ). int_max z s.hi.y) c.with.ensures.above;
    }))

pub returns-in-Some-None-clause-holds : goal.returns-in-Some-None-clause-holds
returns-in-Some-None-clause-holds c = rw (c.in-Some-None.is-0, c.in-Some-None.is-1) (first_holds c.in-Some-None.r)

pub returns-in-None-default-clause-holds : goal.returns-in-None-default-clause-holds
returns-in-None-default-clause-holds c = rw c.in-None-default.is-0 (second_holds c.args.b)
