use Rattle.std.proofs.Common.{rules, ◌≤◌, ◌∙◌, length, inl, sym, subst, refl, arith}
use Rattle.wkt.specs.FeatureCollecting.{Seen, seen}
use Rattle.wkt.specs.Outlines.{IsOutline}
use Rattle.wkt.specs.Surveying.{Shown, shown, judged, took}
use Rattle.wkt.proofs.Checks.{Answers, checked_stop, checked_broken, checked_whole}
use Rattle.wkt.proofs.Starts.{Featured, featured_checked, featured_step, featured_done}
use Rattle.wkt.proofs.features.gather_features.Goals as goal

pub returns-in_default : goal.returns-in_default
returns-in_default g c =
    let small : length c.args.text.now ≤ c.args.longest = omega (arith, c.if-text-longest.false) in
    let k = featured_checked c.args.text.now c.loop-at.at c.loop-at.reader (shown c.loop-at.survey) (seen c.loop-at.collector) c.loop-at.invariant in
    inl (small, checked_stop c.args.text.now c.loop-at.at c.loop-at.reader (shown c.loop-at.survey) c.loop-at-test.true k (c.in_default.ensures c.loop-at.invariant.notes c.loop-at.invariant.known.read.is))

pub loop-at-preserved : goal.loop-at-preserved
loop-at-preserved g c =
    let text = c.args.text.now in
    let k = c.loop-at.invariant in
    subst (λ (s : Shown). Featured text c.pass-passed.result.at c.pass-passed.new.self s (seen c.note-in-loop-at.new.self)) (sym c.note.ensures)
    (subst (λ (x : Seen). Featured text c.pass-passed.result.at c.pass-passed.new.self (took (shown c.loop-at.survey) c.loop-at.at c.in-Some.event) x) (sym c.in-Ok.ensures)
    (featured_step text c.loop-at.at c.pass-passed.result.at c.pass-passed.result.begun c.loop-at.reader c.step.new.self c.pass-passed.new.self (shown c.loop-at.survey) (seen c.loop-at.collector) c.in-Some.event
    c.loop-at-test.true k (c.in-Some.ensures k.notes k.known.read.is) c.pass-passed.ensures))

pub returns-then-not-may_end : goal.returns-then-not-may_end
returns-then-not-may_end g c =
    let small : length c.args.text.now ≤ c.args.longest = omega (arith, c.if-text-longest.false) in
    let k = featured_checked c.args.text.now c.loop-at.at c.loop-at.reader (shown c.loop-at.survey) (seen c.loop-at.collector) c.loop-at.invariant in
    inl (small, checked_broken c.args.text.now c.loop-at.at c.loop-at.reader (shown c.loop-at.survey) c.loop-at-test.false k (sym c.may_end.ensures ∙ c.if-not-may_end.true))

pub into_layer-requires : goal.into_layer-requires
into_layer-requires g c =
    let small : length c.args.text.now ≤ c.args.longest = omega (arith, c.if-text-longest.false) in
    let k = featured_checked c.args.text.now c.loop-at.at c.loop-at.reader (shown c.loop-at.survey) (seen c.loop-at.collector) c.loop-at.invariant in
    let a : Answers c.args.longest c.args.text.now (judged c.loop-at.survey.outside c.loop-at.survey.fault c.loop-at.survey.outline) =
    checked_whole c.args.longest c.args.text.now c.loop-at.at c.loop-at.reader (shown c.loop-at.survey) c.loop-at.survey.outline (search rules) c.loop-at-test.false small k (sym c.may_end.ensures ∙ c.if-not-may_end.false) refl in
    (featured_done c.args.longest c.args.text.now c.loop-at.at c.loop-at.reader (shown c.loop-at.survey) (seen c.loop-at.collector) _ c.loop-at-test.false c.loop-at.invariant (subst (Answers c.args.longest c.args.text.now) (sym c.in-Ok-verdict.ensures) a)).1

pub returns-in-Ok-verdict : goal.returns-in-Ok-verdict
returns-in-Ok-verdict g c =
    let small : length c.args.text.now ≤ c.args.longest = omega (arith, c.if-text-longest.false) in
    let k = featured_checked c.args.text.now c.loop-at.at c.loop-at.reader (shown c.loop-at.survey) (seen c.loop-at.collector) c.loop-at.invariant in
    let a : Answers c.args.longest c.args.text.now (judged c.loop-at.survey.outside c.loop-at.survey.fault c.loop-at.survey.outline) =
    checked_whole c.args.longest c.args.text.now c.loop-at.at c.loop-at.reader (shown c.loop-at.survey) c.loop-at.survey.outline (search rules) c.loop-at-test.false small k (sym c.may_end.ensures ∙ c.if-not-may_end.false) refl in
    let d = featured_done c.args.longest c.args.text.now c.loop-at.at c.loop-at.reader (shown c.loop-at.survey) (seen c.loop-at.collector) _ c.loop-at-test.false c.loop-at.invariant (subst (Answers c.args.longest c.args.text.now) (sym c.in-Ok-verdict.ensures) a) in
    rw c.into_layer.ensures (d.0, subst (λ rings. IsOutline rings c.in-Ok-verdict.outline) (sym d.1.all) d.2, small)

pub returns-in-Err : goal.returns-in-Err
returns-in-Err g c =
    let small : length c.args.text.now ≤ c.args.longest = omega (arith, c.if-text-longest.false) in
    let k = featured_checked c.args.text.now c.loop-at.at c.loop-at.reader (shown c.loop-at.survey) (seen c.loop-at.collector) c.loop-at.invariant in
    let a : Answers c.args.longest c.args.text.now (judged c.loop-at.survey.outside c.loop-at.survey.fault c.loop-at.survey.outline) =
    checked_whole c.args.longest c.args.text.now c.loop-at.at c.loop-at.reader (shown c.loop-at.survey) c.loop-at.survey.outline (search rules) c.loop-at-test.false small k (sym c.may_end.ensures ∙ c.if-not-may_end.false) refl in
    inl (subst (Answers c.args.longest c.args.text.now) (sym c.in-Err.ensures) a)
