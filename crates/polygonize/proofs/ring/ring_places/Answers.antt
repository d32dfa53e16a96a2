use Rattle.std.proofs.Common.{subst, ℕ}
use Rattle.std.specs.Prelude.{All, AllPairs, IfOk}
use Rattle.std.proofs.lemmas.List.Elements.{All-weaker}
use Rattle.std.proofs.lemmas.Result.{IfOk-weaker}
use Rattle.polygonize.proofs.ClosesOnce.{closes_of}
use Rattle.polygonize.proofs.CycleRings.{are_rings, edges_of_cycle}
use Rattle.polygonize.proofs.WrittenRings.Writing.{places_of}
use Rattle.polygonize.specs.Cycle.{AreCycles, Begins, IsCycle}
use Rattle.geom.specs.Rings.{AreRings}
use Rattle.polygonize.specs.Next.{rings_of}
use Rattle.polygonize.specs.RingNumbers.{AreRingNumbers}
use Rattle.polygonize.specs.Written.{ArePlaces, HasItsEdges}
use Rattle.polygonize.proofs.ring.ring_places.Goals as goal

pub returns-clause-places : goal.returns-clause-places
returns-clause-places g c = IfOk-weaker c.cycles_of.result (λ found. AreCycles c.args.next.now found.cycles) (λ found. All (ArePlaces c.args.edges.list.now) found.cycles)
    (λ found h. places_of c.args.edges.list.now c.args.next.now (closes_of c.args.edges.closes).are_directed c.requires.next found.cycles h (are_rings c.args.edges.list.now c.args.next.now (closes_of c.args.edges.closes).are_directed c.requires.next found.cycles h)) c.cycles_of.ensures.cycles

pub returns-clause-rings : goal.returns-clause-rings
returns-clause-rings g c = IfOk-weaker c.cycles_of.result (λ found. AreCycles c.args.next.now found.cycles) (λ found. AreRings c.args.edges.list.now (rings_of c.args.edges.list.now found.cycles))
    (λ found h. are_rings c.args.edges.list.now c.args.next.now (closes_of c.args.edges.closes).are_directed c.requires.next found.cycles h) c.cycles_of.ensures.cycles

pub returns-clause-edges : goal.returns-clause-edges
returns-clause-edges g c = IfOk-weaker c.cycles_of.result (λ found. AreCycles c.args.next.now found.cycles) (λ found. All (HasItsEdges c.args.edges.list.now) found.cycles)
    (λ found h. All-weaker (IsCycle c.args.next.now) (HasItsEdges c.args.edges.list.now) (λ cycle k. edges_of_cycle c.args.edges.list.now c.args.next.now c.requires.next cycle k) found.cycles h.are_cycles) c.cycles_of.ensures.cycles

pub returns-clause-ascending : goal.returns-clause-ascending
returns-clause-ascending g c = IfOk-weaker c.cycles_of.result (λ found. AreCycles c.args.next.now found.cycles) (λ found. AllPairs Begins found.cycles) (λ found h. h.ascending) c.cycles_of.ensures.cycles

pub returns-clause-numbers : goal.returns-clause-numbers
returns-clause-numbers g c = subst (λ (n : ℕ). IfOk c.cycles_of.result (λ found. AreRingNumbers n found.cycles found.cycle_at.items)) c.requires.next.same_length c.cycles_of.ensures.numbers
