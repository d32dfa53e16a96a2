use Rattle.std.proofs.Common.{◌∙◌, subst, sym}
use Rattle.std.proofs.lemmas.Result.{MatchResult-weaker}
use Rattle.overlay_c.specs.declared.strip_answer.OverlayStripAnswer.{OverlayStripAnswer}
use Rattle.overlay_c.specs.Strips.{one_list}
use Rattle.overlay_c.specs.StripLabels.{AreLabelsOf, AreLabelsTold, FailsLabels, FailsLists}
use Rattle.overlay_c.specs.StripLabels.FailsLabels.{no_labels, no_operation}
use Rattle.overlay_c.proofs.strip_labels.labelled_for.Goals as goal

pub returns-in-Some : goal.returns-in-Some
returns-in-Some c =
    let op = c.in-Some.op in
    let crossing = c.args.crossing.now in
    let own = c.args.own.now in
    let asked = sym c.op_of.ensures ∙ c.in-Some.is in
    MatchResult-weaker c.labelled_or_told.result {P = λ list. AreLabelsOf op crossing own (one_list list.items)} {P' = λ list. AreLabelsTold c.args.call crossing own (one_list list.items)}
    {Q = FailsLists crossing own} {Q' = FailsLabels c.args.call crossing own} c.labelled_or_told.ensures (λ list h. (op, asked, h)) (λ told h. no_labels op asked h)

pub returns-in-None : goal.returns-in-None
returns-in-None c = subst (λ (w : OverlayStripAnswer). FailsLabels c.args.call c.args.crossing.now c.args.own.now w) (sym c.no_strip.ensures) (no_operation (sym c.op_of.ensures ∙ c.in-None.is))
