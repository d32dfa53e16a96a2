use Rattle.std.proofs.lemmas.List.Elements.{All-push}
use Rattle.geom.specs.declared.segment.Seg.{Seg}
use Rattle.geom.specs.Box.{IsInBox}
use Rattle.geom.specs.Limit.{AreInLimit}
use Rattle.chain_gather_tests.proofs.gathering.segments_in.Goals as goal

pub loop-pair-preserved : goal.loop-pair-preserved
loop-pair-preserved g c =
    let r = c.args.bounds.now in
    rw c.in_ok-push.ensures.items (All-push (λ (s : Seg). AreInLimit s.a s.b × IsInBox r.lo r.hi s.a × IsInBox r.lo r.hi s.b) c.loop-pair.segments.items c.in-Some.segment c.loop-pair.invariant c.in-Some.ensures)
