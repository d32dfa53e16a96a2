use Rattle.std.proofs.Common.{rules, ◌≤◌, ◌+◌, ◌∙◌, length, inl, sym, subst, refl, arith}
use Rattle.wkt.specs.Surveying.{Shown, shown, judged, took}
use Rattle.wkt.specs.Collecting.{Gathered, view}
use Rattle.wkt.proofs.Checks.{Answers, checked_stop, checked_broken, checked_whole}
use Rattle.wkt.proofs.Collections.{Collected, collected_checked, collected_more, collected_on, collected_done}
use Rattle.wkt.proofs.read.gather.Goals as goal

pub returns-in_default : goal.returns-in_default
returns-in_default g c =
    let small : length c.args.text.now ≤ c.args.longest = omega (arith, c.if-text-longest.false) in
    let k = collected_checked c.args.text.now c.loop-at.at c.loop-at.reader (shown c.loop-at.survey) (view c.loop-at.collector) c.loop-at.invariant in
    inl (small, checked_stop c.args.text.now c.loop-at.at c.loop-at.reader (shown c.loop-at.survey) c.loop-at-test.true k (c.in_default.ensures c.loop-at.invariant.notes c.loop-at.invariant.known.read.is))

pub loop-at-preserved : goal.loop-at-preserved
loop-at-preserved g c =
    collected_on c.args.text.now (c.loop-at.at + 1) c.pass-passed.result.at c.pass-passed.result.begun c.step.new.self c.pass-passed.new.self (shown c.note.new.self) (view c.note-in-loop-at.new.self)
    (subst (λ (s : Shown). Collected c.args.text.now (c.loop-at.at + 1) c.step.new.self s (view c.note-in-loop-at.new.self)) (sym c.note.ensures)
    (subst (λ (x : Gathered). Collected c.args.text.now (c.loop-at.at + 1) c.step.new.self (took (shown c.loop-at.survey) c.loop-at.at c.in-Some.event) x) (sym c.in-Ok.ensures)
    (collected_more c.args.text.now c.loop-at.at c.loop-at.reader (shown c.loop-at.survey) (view c.loop-at.collector) c.in-Some.event c.step.new.self c.loop-at-test.true c.loop-at.invariant (c.in-Some.ensures c.loop-at.invariant.notes c.loop-at.invariant.known.read.is))))
    c.pass-passed.ensures

pub returns-then-not-may_end : goal.returns-then-not-may_end
returns-then-not-may_end g c =
    let small : length c.args.text.now ≤ c.args.longest = omega (arith, c.if-text-longest.false) in
    let k = collected_checked c.args.text.now c.loop-at.at c.loop-at.reader (shown c.loop-at.survey) (view c.loop-at.collector) c.loop-at.invariant in
    inl (small, checked_broken c.args.text.now c.loop-at.at c.loop-at.reader (shown c.loop-at.survey) c.loop-at-test.false k (sym c.may_end.ensures ∙ c.if-not-may_end.true))

pub returns-in-Ok-verdict : goal.returns-in-Ok-verdict
returns-in-Ok-verdict g c =
    let small : length c.args.text.now ≤ c.args.longest = omega (arith, c.if-text-longest.false) in
    let k = collected_checked c.args.text.now c.loop-at.at c.loop-at.reader (shown c.loop-at.survey) (view c.loop-at.collector) c.loop-at.invariant in
    let a : Answers c.args.longest c.args.text.now (judged c.loop-at.survey.outside c.loop-at.survey.fault c.loop-at.survey.outline) =
    checked_whole c.args.longest c.args.text.now c.loop-at.at c.loop-at.reader (shown c.loop-at.survey) c.loop-at.survey.outline (search rules) c.loop-at-test.false small k (sym c.may_end.ensures ∙ c.if-not-may_end.false) refl in
    let done = collected_done c.args.longest c.args.text.now c.loop-at.at c.loop-at.reader (shown c.loop-at.survey) (view c.loop-at.collector) _ c.loop-at-test.false c.loop-at.invariant (subst (Answers c.args.longest c.args.text.now) (sym c.in-Ok-verdict.ensures) a) in
    (done.0, done.1, small)

pub returns-in-Err : goal.returns-in-Err
returns-in-Err g c =
    let small : length c.args.text.now ≤ c.args.longest = omega (arith, c.if-text-longest.false) in
    let k = collected_checked c.args.text.now c.loop-at.at c.loop-at.reader (shown c.loop-at.survey) (view c.loop-at.collector) c.loop-at.invariant in
    let a : Answers c.args.longest c.args.text.now (judged c.loop-at.survey.outside c.loop-at.survey.fault c.loop-at.survey.outline) =
    checked_whole c.args.longest c.args.text.now c.loop-at.at c.loop-at.reader (shown c.loop-at.survey) c.loop-at.survey.outline (search rules) c.loop-at-test.false small k (sym c.may_end.ensures ∙ c.if-not-may_end.false) refl in
    inl (subst (Answers c.args.longest c.args.text.now) (sym c.in-Err.ensures) a)
