use Rattle.std.proofs.Common.{List, subst, sym}
use Rattle.std.specs.Prelude.{AllPairs}
use Rattle.geom.specs.EdgeOrder.{IsEdgeBefore}
use Rattle.geom.specs.declared.edge.Counted.{Counted}
use Rattle.geom.specs.declared.edge.Edge.{Edge}
use Rattle.edge_test.proofs.Alike.{counted_ascending}
use Rattle.edge_test.proofs.ordered.rounded_of.Goals as goal

pub of_edges-requires-clause-ascending : goal.of_edges-requires-clause-ascending
of_edges-requires-clause-ascending g c =
    subst (λ (cs : List Counted). AllPairs (λ a b. IsEdgeBefore a.edge b.edge) cs) (sym c.deref.ensures.value)
    (counted_ascending c.in_ok-counted.counted.items (subst (λ (es : List Edge). AllPairs IsEdgeBefore es) (sym c.in_ok-counted.ensures.edges) c.requires))
