use Rattle.std.proofs.Common.{List, subst, sym}
use Rattle.std.specs.Prelude.{All}
use Rattle.geom.specs.Limit.{AreInLimit}
use Rattle.geom.specs.Rounded.{edges_of}
use Rattle.geom.specs.declared.edge.Edge.{Edge}
use Rattle.edge_test.specs.Tested.{IsEdgesFault}
use Rattle.edge_test.proofs.Alike.{counted_all, passed}
use Rattle.edge_test.proofs.tested.test_ascending.Goals as goal

pub returns-in_default : goal.returns-in_default
returns-in_default g c = λ e f i j apart z one other. absurd (c.in_default.ensures.holds e i)

pub noded-requires-clause-limits : goal.noded-requires-clause-limits
noded-requires-clause-limits g c κs within =
    counted_all (λ (e : Edge). AreInLimit e.p e.q) c.in-Ok.rounded.edges.items (subst (All (λ (e : Edge). AreInLimit e.p e.q)) (sym c.in-Ok.ensures) c.requires.limits)

pub returns-in-Ok-noded : goal.returns-in-Ok-noded
returns-in-Ok-noded g c = passed c.in-Ok.rounded c.in-Ok-noded.noded c.args.edges.now c.in-Ok-noded.ensures c.in-Ok.ensures

pub returns-in-Err : goal.returns-in-Err
returns-in-Err g c = subst (λ (es : List Edge). IsEdgesFault es c.fault_of.result) c.in-Ok.ensures (c.fault_of.ensures (edges_of c.in-Ok.rounded.edges.items) c.in-Err.ensures)
