use Rattle.std.proofs.Common.{List, subst}
use Rattle.std.proofs.lemmas.List.{take_all}
use Rattle.geom.specs.declared.edge.Counted.{Counted}
use Rattle.chain_gather.proofs.Boxes.{boxes_more}
use Rattle.noding_test.specs.Passes.{AreBoxesOfEdges, edge_corners}
use Rattle.noding_test.proofs.noding.boxes_of.Goals as goal

pub loop-item-preserved : goal.loop-item-preserved
loop-item-preserved g c = boxes_more edge_corners c.args.counted.now c.loop-item.boxes c.push.new.self c.loop-item.item-index c.item-item.result c.bounds.result c.loop-item-test.true c.item-item.is c.loop-item.invariant c.in_ok-push.ensures.ok (λ j. (c.bounds.ensures.lo j, c.bounds.ensures.hi j))

pub returns : goal.returns
returns g c = subst (λ (cs : List Counted). AreBoxesOfEdges cs c.loop-item.boxes) (take_all c.loop-item.item-index c.args.counted.now c.loop-item-test.false) c.loop-item.invariant
