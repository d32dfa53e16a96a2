use Rattle.polygonize.specs.Number.{IsVertex}
use Rattle.polygonize.specs.Next.{edge_at}
use Rattle.polygonize.proofs.RingPieces.Mapping.{simple_map}
use Rattle.polygonize.proofs.Numbers.{same_vertex}
use Rattle.polygonize.proofs.polygon.simple_ring.Goals as goal

pub new-requires-clause-distinct : goal.new-requires-clause-distinct
new-requires-clause-distinct g c = rw c.in_ok-points_of.ensures (simple_map (IsVertex c.args.edges.now) (λ i. (edge_at c.args.edges.now i).from) (same_vertex c.args.edges.now) c.args.ring.now c.requires.vertices c.requires.simple)
