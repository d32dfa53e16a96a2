use Rattle.std.proofs.Common.{ap, inl, inr}
use Rattle.geom.specs.declared.edge.Edge.{Edge}
use Rattle.routing.proofs.CuttingLaws.{end_at, marks_more}
use Rattle.routing.proofs.cutting.push_ends.Goals as goal

pub returns : goal.returns
returns g c = λ table x listed same were. rw (c.in_ok-push-2.ensures.items, c.in_ok-push.ensures.items)
    (marks_more table _ _ (end_at table x _ listed (inr (ap (λ (e : Edge). e.q) same))) (marks_more table c.args.marks.now.items _ (end_at table x _ listed (inl (ap (λ (e : Edge). e.p) same))) were))
