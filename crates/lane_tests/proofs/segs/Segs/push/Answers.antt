use Rattle.lane_tests.proofs.Pairs.{either_way, still}
use Rattle.lane_tests.specs.Edges.{AreNear}
use Rattle.lane_tests.proofs.Ends.{near_grown}
use Rattle.lane_tests.proofs.segs.Segs.push.Goals as goal

pub invariant_of-self-inside : goal.invariant_of-self-inside
invariant_of-self-inside g c =
    let n = c.self.inside.are_near in
    (either_way c.push.result (λ e. near_grown _ _ (c.args.seg.a, c.args.seg.b) n c.requires e) (λ e. still AreNear _ _ n e) c.push.ensures.ok c.push.ensures.err, tt)
