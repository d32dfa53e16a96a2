use Rattle.std.proofs.Common.{List, subst}
use Rattle.std.proofs.lemmas.List.{take_all}
use Rattle.geom.specs.declared.segment.Seg.{Seg}
use Rattle.linking.specs.Gathered.{AreBoxesOf, box_corners}
use Rattle.chain_gather.proofs.Boxes.{boxes_more}
use Rattle.chain_gather_tests.proofs.gathering.boxes_of.Goals as goal

pub loop-segment-preserved : goal.loop-segment-preserved
loop-segment-preserved g c = boxes_more box_corners c.args.segments.now c.loop-segment.boxes c.push.new.self c.loop-segment.segment-index c.segment-item.result c.bounds.result c.loop-segment-test.true c.segment-item.is c.loop-segment.invariant c.in_ok-push.ensures.ok (λ j. (c.bounds.ensures.lo j, c.bounds.ensures.hi j))

pub returns : goal.returns
returns g c = subst (λ (ss : List Seg). AreBoxesOf ss c.loop-segment.boxes) (take_all c.loop-segment.segment-index c.args.segments.now c.loop-segment-test.false) c.loop-segment.invariant
