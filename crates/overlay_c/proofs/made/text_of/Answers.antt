use Rattle.std.proofs.Common.{◌≡◌, subst, sym}
use Rattle.std.specs.Prelude.{None, Some}
use Rattle.overlay_c.specs.declared.answer.OverlayAnswer.{OverlayAnswer}
use Rattle.overlay_c.specs.Boundary.{Fails, declined, no_call, task_from}
use Rattle.overlay_c.proofs.Telling.{none_of}
use Rattle.overlay_c.proofs.made.text_of.Goals as goal

pub returns-in_default : goal.returns-in_default
returns-in_default c =
    let e = c.task_of.ensures in
    let n = none_of c.task_of.result c.in_default.not-Some in
    let h : task_from c.args.call ≡ None = cc in
    subst (λ (w : OverlayAnswer). Fails c.args.limits.segments c.args.call c.args.side c.args.a.now c.args.b.now w) (sym c.plain_answer.ensures) (no_call h)

pub returns : goal.returns
returns c =
    let e = c.task_of.ensures in
    let f = c.in-Some.is in
    let h : task_from c.args.call ≡ Some c.in-Some.task = cc in
    subst (λ (w : OverlayAnswer). Fails c.args.limits.segments c.args.call c.args.side c.args.a.now c.args.b.now w) (sym c.answer_of.ensures) (declined c.in-Some.task h c.in-Err.fault.at c.in-Err.fault.fault c.in-Err.ensures)
