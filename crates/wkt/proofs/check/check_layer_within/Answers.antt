use Rattle.std.proofs.Common.{rules, ◌∙◌, refl, arith, length, sym, subst, ◌+◌}
use Rattle.std.specs.Prelude.{◌≤◌}
use Rattle.wkt.specs.Surveying.{Shown, shown}
use Rattle.wkt.proofs.Checks.{Answers, Checked, checked_more, checked_on, checked_stop, checked_broken, checked_whole}
use Rattle.wkt.proofs.Bounded.{bounds_in}
use Rattle.wkt.proofs.check.check_layer_within.Goals as goal

pub returns-in_default-clause-answer : goal.returns-in_default-clause-answer
returns-in_default-clause-answer c =
    let small : length c.args.text.now ≤ c.args.longest = omega (arith, c.if-text-longest.false) in
    (small, checked_stop c.args.text.now c.loop-at.at c.loop-at.reader (shown c.loop-at.survey) c.loop-at-test.true c.loop-at.invariant (c.in_default.ensures c.loop-at.invariant.notes c.loop-at.invariant.known.read.is))

pub loop-at-preserved : goal.loop-at-preserved
loop-at-preserved c =
    checked_on c.args.text.now (c.loop-at.at + 1) c.pass-passed.result.at c.pass-passed.result.begun c.step.new.self c.pass-passed.new.self (shown c.note.new.self)
    (subst (λ (s : Shown). Checked c.args.text.now (c.loop-at.at + 1) c.step.new.self s) (sym c.note.ensures)
    (checked_more c.args.text.now c.loop-at.at c.loop-at.reader (shown c.loop-at.survey) c.in-Some.event c.step.new.self c.loop-at-test.true c.loop-at.invariant (c.in-Some.ensures c.loop-at.invariant.notes c.loop-at.invariant.known.read.is))) c.pass-passed.ensures

pub returns-then-not-may_end-clause-answer : goal.returns-then-not-may_end-clause-answer
returns-then-not-may_end-clause-answer c =
    let small : length c.args.text.now ≤ c.args.longest = omega (arith, c.if-text-longest.false) in
    (small, checked_broken c.args.text.now c.loop-at.at c.loop-at.reader (shown c.loop-at.survey) c.loop-at-test.false c.loop-at.invariant (sym c.may_end.ensures ∙ c.if-not-may_end.true))

pub returns-clause-answer : goal.returns-clause-answer
returns-clause-answer c =
    let small : length c.args.text.now ≤ c.args.longest = omega (arith, c.if-text-longest.false) in
    subst (Answers c.args.longest c.args.text.now) (sym c.verdict.ensures)
    (checked_whole c.args.longest c.args.text.now c.loop-at.at c.loop-at.reader (shown c.loop-at.survey) c.loop-at.survey.outline (search rules) c.loop-at-test.false small c.loop-at.invariant (sym c.may_end.ensures ∙ c.if-not-may_end.false) refl)

pub returns-clause-in_limit : goal.returns-clause-in_limit
returns-clause-in_limit c =
    let small : length c.args.text.now ≤ c.args.longest = omega (arith, c.if-text-longest.false) in
    bounds_in c.args.longest c.args.text.now c.verdict.result (subst (Answers c.args.longest c.args.text.now) (sym c.verdict.ensures)
    (checked_whole c.args.longest c.args.text.now c.loop-at.at c.loop-at.reader (shown c.loop-at.survey) c.loop-at.survey.outline (search rules) c.loop-at-test.false small c.loop-at.invariant (sym c.may_end.ensures ∙ c.if-not-may_end.false) refl))
