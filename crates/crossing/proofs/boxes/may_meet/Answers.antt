use Rattle.std.proofs.Common.{◌∙◌, sym}
use Rattle.crossing.proofs.Spans.{boxes_common, common_point, crossing_meets}
use Rattle.crossing.proofs.boxes.may_meet.Goals as goal

pub returns-clause-exact : goal.returns-clause-exact
returns-clause-exact c = (
  (λ h. common_point c.args.s.now c.args.t.now (sym c.boxes_meet.ensures ∙ h)),
  (λ h. c.boxes_meet.ensures ∙ boxes_common c.args.s.now c.args.t.now h),
)

pub returns-clause-crossing : goal.returns-clause-crossing
returns-clause-crossing c = λ p h. c.boxes_meet.ensures ∙ crossing_meets c.args.s.now c.args.t.now p h
