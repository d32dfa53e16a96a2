use Rattle.std.proofs.Common.{ℕ, List, sym, subst}
use Rattle.std.specs.Prelude.{Contains}
use Rattle.polygonize.specs.Column.{Spans}
use Rattle.polygonize.specs.Next.{edge_at}
use Rattle.polygonize.proofs.EdgesBelow.Searching.{for_fewer}
use Rattle.polygonize.proofs.nearest.add_spanning.Goals as goal

pub returns : goal.returns
returns g c = for_fewer c.args.edges.list.now c.args.vertices.now (Contains c.args.asked.now) (Contains c.args.asked.now) (Contains c.deref-2.result.now) (λ k. Contains c.args.numbers.now k × Spans (edge_at c.args.edges.list.now k) c.args.columns) c.args.best.now c.add_edges.new.best
    (λ r h. h) (λ k q. subst (λ (t : List ℕ). Contains t k) (sym c.deref-2.ensures.value) (c.in_ok-ladder.ensures.complete k q.0 q.1)) c.add_edges.ensures
