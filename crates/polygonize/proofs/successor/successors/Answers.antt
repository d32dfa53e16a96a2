use Rattle.std.proofs.Common.{length}
use Rattle.std.proofs.lemmas.Result.{IfOk-weaker}
use Rattle.polygonize.specs.Cycle.{IsOneToOne}
use Rattle.polygonize.specs.Leaving.{AreNextPlaces}
use Rattle.polygonize.specs.Next.{AreNext}
use Rattle.polygonize.proofs.ClosesOnce.{closes_of}
use Rattle.polygonize.proofs.NextEdge.Linking.{are_next, one_to_one}
use Rattle.polygonize.proofs.successor.successors.Goals as goal

pub returns-clause-next : goal.returns-clause-next
returns-clause-next g c = IfOk-weaker c.next_places.result (λ next. AreNextPlaces c.args.edges.list.now 0 (length c.args.edges.list.now) next.items) (λ next. AreNext c.args.edges.list.now next.items)
    (λ next h. are_next c.args.edges.list.now next.items h) c.next_places.ensures

pub returns-clause-one_to_one : goal.returns-clause-one_to_one
returns-clause-one_to_one g c = IfOk-weaker c.next_places.result (λ next. AreNextPlaces c.args.edges.list.now 0 (length c.args.edges.list.now) next.items) (λ next. IsOneToOne next.items)
    (λ next h. one_to_one c.args.edges.list.now next.items h (closes_of c.args.edges.closes).are_directed) c.next_places.ensures
