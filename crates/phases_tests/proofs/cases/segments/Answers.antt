use Rattle.std.proofs.lemmas.List.Elements.{All-push}
use Rattle.geom.specs.declared.segment.Seg.{Seg}
use Rattle.geom.specs.Limit.{AreInLimit}
use Rattle.phases_tests.proofs.cases.segments.Goals as goal

pub loop-lined-preserved : goal.loop-lined-preserved
loop-lined-preserved c = rw c.in_ok-push.ensures.items (All-push (λ (s : Seg). AreInLimit s.a s.b) c.loop-lined.segments.items c.in-Some.s c.loop-lined.invariant c.in-Some.ensures)
