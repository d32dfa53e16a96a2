use Rattle.lane_tests.specs.Edges.{AreEdges, AreNear, edges_of, ends}
use Rattle.lane_tests.proofs.Pairs.{either_way, list_grown, list_kept, on_err, on_ok, still}
use Rattle.lane_tests.proofs.EdgeLists.{edges_grown, ends-edges_of, ends_tell}
use Rattle.lane_tests.proofs.Ends.{near_grown}
use Rattle.lane_tests.proofs.edges.Edges.push.Goals as goal

pub invariant_of-self-inside : goal.invariant_of-self-inside
invariant_of-self-inside g c =
    let h = c.self.inside.are_edges in
    let n = c.self.inside.are_near in (
      either_way c.push.result (λ e. edges_grown _ _ c.args.edge h e) (λ e. still AreEdges _ _ h e) c.push.ensures.ok c.push.ensures.err,
      (either_way c.push.result (λ e. near_grown _ _ (ends c.args.edge) n c.requires e) (λ e. still AreNear _ _ n e) c.push.ensures.ok c.push.ensures.err, tt),
    )

pub returns-clause-ok : goal.returns-clause-ok
returns-clause-ok g c = on_ok c.push.result (λ e. list_grown ends ends_tell AreEdges edges_of ends-edges_of _ _ c.self.inside.are_edges _ _ c.args.edge c.self.view_is e) c.push.ensures.ok

pub returns-clause-err : goal.returns-clause-err
returns-clause-err g c = on_err c.push.result (λ e. list_kept ends ends_tell AreEdges edges_of ends-edges_of _ _ c.self.inside.are_edges _ _ c.self.view_is e) c.push.ensures.err
