use Rattle.std.proofs.lemmas.Result.{err_from_is_err_and}
use Rattle.layers.specs.Refusals.{text_limit}
use Rattle.layers.proofs.Refusing.{checked_all, known_fault, refused_a, refused_b, refused_tiles, refused_total}
use Rattle.layers.proofs.checking.check.Goals as goal

pub returns-in_err-outline_a-clause-answer : goal.returns-in_err-outline_a-clause-answer
returns-in_err-outline_a-clause-answer g c =
    let p = err_from_is_err_and c.from_residual-in_err-outline_a.result c.from_residual-in_err-outline_a.ensures.1 in
    let f = c.in_err-outline_a.field-0.0 in
    rw (p.1, p.2) (refused_a c.args.limits.segments c.args.plan c.args.a.now c.args.b.now f.at f.fault c.in_ok-check_plan.ensures (c.in_err-outline_a.ensures.answer (text_limit c.args.limits.segments) c.requires.read_a).0 (c.in_err-outline_a.ensures.answer (text_limit c.args.limits.segments) c.requires.read_a).1)

pub returns-in_err-outline_b-clause-answer : goal.returns-in_err-outline_b-clause-answer
returns-in_err-outline_b-clause-answer g c =
    let p = err_from_is_err_and c.from_residual-in_err-outline_b.result c.from_residual-in_err-outline_b.ensures.1 in
    let f = c.in_err-outline_b.field-0.0 in
    rw (p.1, p.2) (refused_b c.args.limits.segments c.args.plan c.args.a.now c.args.b.now f.at f.fault c.in_ok-outline_a.outline_a c.in_ok-check_plan.ensures (c.in_ok-outline_a.ensures.answer (text_limit c.args.limits.segments) c.requires.read_a).0 (c.in_err-outline_b.ensures.answer (text_limit c.args.limits.segments) c.requires.read_b).0 (c.in_err-outline_b.ensures.answer (text_limit c.args.limits.segments) c.requires.read_b).1)

pub returns-in_err-check_total-clause-answer : goal.returns-in_err-check_total-clause-answer
returns-in_err-check_total-clause-answer g c =
    let p = err_from_is_err_and c.from_residual-in_err-check_total.result c.from_residual-in_err-check_total.ensures.1 in
    let f = c.in_err-check_total.field-0.0 in
    let h = c.in_err-check_total.ensures in
    rw (p.1, p.2) (refused_total c.args.limits.segments c.args.plan c.args.a.now c.args.b.now f.at f.fault c.in_ok-outline_a.outline_a c.in_ok-outline_b.outline_b c.in_ok-check_plan.ensures (c.in_ok-outline_a.ensures.answer (text_limit c.args.limits.segments) c.requires.read_a).0 (c.in_ok-outline_b.ensures.answer (text_limit c.args.limits.segments) c.requires.read_b).0 h.0 h.1 h.2)

pub returns-in_err-grid-clause-answer : goal.returns-in_err-grid-clause-answer
returns-in_err-grid-clause-answer g c =
    let p = err_from_is_err_and c.from_residual-in_err-grid.result c.from_residual-in_err-grid.ensures.1 in
    let f = c.in_err-grid.field-0.0 in
    rw (p.1, p.2) (refused_tiles c.args.limits.segments c.args.plan c.args.a.now c.args.b.now f.at f.fault c.in_ok-outline_a.outline_a c.in_ok-outline_b.outline_b c.in_ok-check_plan.ensures (c.in_ok-outline_a.ensures.answer (text_limit c.args.limits.segments) c.requires.read_a).0 (c.in_ok-outline_b.ensures.answer (text_limit c.args.limits.segments) c.requires.read_b).0 c.in_ok-check_total.ensures c.in_err-grid.ensures)

pub invariant_of-result : goal.invariant_of-result
invariant_of-result g c = record {
  are_checked = ∣ checked_all c.args.limits.segments c.args.plan c.args.a.now c.args.b.now c.in_ok-outline_a.outline_a c.in_ok-outline_b.outline_b c.in_ok-grid.grid c.in_ok-check_plan.ensures (c.in_ok-outline_a.ensures.answer (text_limit c.args.limits.segments) c.requires.read_a).0 (c.in_ok-outline_b.ensures.answer (text_limit c.args.limits.segments) c.requires.read_b).0 c.in_ok-check_total.ensures c.in_ok-grid.ensures ∣₁;
}

pub returns-clause-answer : goal.returns-clause-answer
returns-clause-answer g c =
    let h = checked_all c.args.limits.segments c.args.plan c.args.a.now c.args.b.now c.in_ok-outline_a.outline_a c.in_ok-outline_b.outline_b c.in_ok-grid.grid c.in_ok-check_plan.ensures (c.in_ok-outline_a.ensures.answer (text_limit c.args.limits.segments) c.requires.read_a).0 (c.in_ok-outline_b.ensures.answer (text_limit c.args.limits.segments) c.requires.read_b).0 c.in_ok-check_total.ensures c.in_ok-grid.ensures in
    (h.rings_a, h.rings_b, c.in_ok-grid.grid, h.ready)

pub outline_of-requires : goal.outline_of-requires
outline_of-requires g c = known_fault (text_limit c.args.limits.segments) c.args.a.now c.args.read_a.now c.requires.read_a
