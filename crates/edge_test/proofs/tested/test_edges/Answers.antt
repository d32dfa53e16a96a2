use Rattle.std.proofs.Common.{List, subst, sym}
use Rattle.std.specs.Prelude.{All, MatchResult}
use Rattle.geom.specs.Limit.{AreInLimit}
use Rattle.geom.specs.Noded.{IsNoded}
use Rattle.geom.specs.declared.edge.Edge.{Edge}
use Rattle.edge_test.specs.Tested.{IsEdgesFault}
use Rattle.edge_test.proofs.Alike.{all_alike, alike_tested}
use Rattle.edge_test.proofs.tested.test_edges.Goals as goal

pub test_ascending-requires-clause-limits : goal.test_ascending-requires-clause-limits
test_ascending-requires-clause-limits g c κs within =
    let same = c.put_in_order.ensures.same in
    subst (All (λ (e : Edge). AreInLimit e.p e.q)) (sym c.deref.ensures.value)
    (all_alike (λ (e : Edge). AreInLimit e.p e.q) c.args.edges.items c.put_in_order.new.edges.items (λ e. ((same e).1, (same e).0)) c.requires.limits)

pub returns : goal.returns
returns g c =
    alike_tested c.put_in_order.new.edges.items c.args.edges.items c.put_in_order.ensures.same c.test_ascending.result
    (subst (λ (es : List Edge). MatchResult c.test_ascending.result (λ _. IsNoded es) (IsEdgesFault es)) c.deref.ensures.value c.test_ascending.ensures)
