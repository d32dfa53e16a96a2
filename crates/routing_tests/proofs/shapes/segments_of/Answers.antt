use Rattle.std.proofs.lemmas.List.Elements.{All-push}
use Rattle.geom.specs.declared.segment.Seg.{Seg}
use Rattle.geom.specs.Limit.{AreInLimit}
use Rattle.routing_tests.proofs.shapes.segments_of.Goals as goal

pub loop-pair-preserved : goal.loop-pair-preserved
loop-pair-preserved g c = rw c.in_ok-push.ensures.items (All-push (λ (s : Seg). AreInLimit s.a s.b) c.loop-pair.segments.items c.in-Some.made c.loop-pair.invariant c.in-Some.ensures)
