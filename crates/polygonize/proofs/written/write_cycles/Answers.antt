use Rattle.std.proofs.Common.{◌∙◌, List, ap, arith, length, subst, sym, ℕ}
use Rattle.std.proofs.lemmas.List.{with_items_is}
use Rattle.polygonize.specs.RingNumbers.{IsRingOf, kept_by}
use Rattle.polygonize.specs.Written.{ArePlaces}
use Rattle.polygonize.proofs.ClosesOnce.{closes_of}
use Rattle.polygonize.proofs.WrittenRings.Cuts.{all_taken, cut_at, cycle_inside, taken_next}
use Rattle.polygonize.proofs.WrittenRings.CyclesWritten.{all_filled, next_filled, nothing_filled}
use Rattle.polygonize.proofs.WrittenRings.Writing.{all_written, below_cycle, nothing_written, of_cycle, one_written}
use Rattle.polygonize.proofs.written.write_cycles.Goals as goal

pub loop-ring-init : goal.loop-ring-init
loop-ring-init g c = (
  sym c.into_iter-ring-iterator.ensures.into_iter_gives.0,
  rw c.in_ok-written.ensures.items (nothing_written c.args.edges.list.now c.args.cycles.now),
  sym c.in_ok-shells.shells.ok.0 ∙ c.in_ok-shells.ensures.len ∙ c.count-2.ensures,
  (λ noded grounded. rw c.in_ok-written.ensures.items (nothing_filled c.args.edges.list.now c.args.cycles.now _)),
)

pub numbers-requires : goal.numbers-requires
numbers-requires g c = cycle_inside c.args.edges.list.now c.args.cycles.now c.args.rings.items c.loop-ring.number c.in-Some.ring c.next.new.self.rest.items c.requires.cut (c.loop-ring.invariant.0 ∙ c.in-Some.ensures.steps.0)

pub bounds-below-number : goal.bounds-below-number
bounds-below-number g c =
    let inside = cycle_inside c.args.edges.list.now c.args.cycles.now c.args.rings.items c.loop-ring.number c.in-Some.ring c.next.new.self.rest.items c.requires.cut (c.loop-ring.invariant.0 ∙ c.in-Some.ensures.steps.0) in
    let l = c.requires.found.same_length in
    omega (arith, inside, l)

pub write_ring-requires-clause-one_each : goal.write_ring-requires-clause-one_each
write_ring-requires-clause-one_each g c = c.requires.numbers.one_each

pub write_ring-requires-clause-number : goal.write_ring-requires-clause-number
write_ring-requires-clause-number g c =
    let inside = cycle_inside c.args.edges.list.now c.args.cycles.now c.args.rings.items c.loop-ring.number c.in-Some.ring c.next.new.self.rest.items c.requires.cut (c.loop-ring.invariant.0 ∙ c.in-Some.ensures.steps.0) in
    let e = ap length c.deref_mut.ensures.value ∙ c.loop-ring.invariant.2 in
    omega (arith, inside, e)

pub write_ring-requires-clause-numbered : goal.write_ring-requires-clause-numbered
write_ring-requires-clause-numbered g c =
    let inside = cycle_inside c.args.edges.list.now c.args.cycles.now c.args.rings.items c.loop-ring.number c.in-Some.ring c.next.new.self.rest.items c.requires.cut (c.loop-ring.invariant.0 ∙ c.in-Some.ensures.steps.0) in
    subst (λ (t : List ℕ). IsRingOf c.args.ring_at.now t c.loop-ring.number)
    (sym c.numbers.ensures)
    (c.requires.numbers.each c.loop-ring.number inside)

pub write_ring-requires-clause-cycle : goal.write_ring-requires-clause-cycle
write_ring-requires-clause-cycle g c =
    let inside = cycle_inside c.args.edges.list.now c.args.cycles.now c.args.rings.items c.loop-ring.number c.in-Some.ring c.next.new.self.rest.items c.requires.cut (c.loop-ring.invariant.0 ∙ c.in-Some.ensures.steps.0) in
    of_cycle (ArePlaces c.args.edges.list.now) c.args.cycles.now c.loop-ring.number c.numbers.result.now inside c.numbers.ensures c.requires.cycles

pub write_ring-requires-clause-ring : goal.write_ring-requires-clause-ring
write_ring-requires-clause-ring g c =
    let taken = c.loop-ring.invariant.0 ∙ c.in-Some.ensures.steps.0 in
    let inside = cycle_inside c.args.edges.list.now c.args.cycles.now c.args.rings.items c.loop-ring.number c.in-Some.ring c.next.new.self.rest.items c.requires.cut taken in
    cut_at c.args.edges.list.now c.args.cycles.now c.args.rings.items c.loop-ring.number c.in-Some.ring c.next.new.self.rest.items c.numbers.result.now c.requires.cut taken
    (sym c.numbers.ensures)

pub write_ring-requires-clause-below : goal.write_ring-requires-clause-below
write_ring-requires-clause-below g c =
    let inside = cycle_inside c.args.edges.list.now c.args.cycles.now c.args.rings.items c.loop-ring.number c.in-Some.ring c.next.new.self.rest.items c.requires.cut (c.loop-ring.invariant.0 ∙ c.in-Some.ensures.steps.0) in
    below_cycle c.args.edges.list.now c.args.cycles.now c.args.below.now c.loop-ring.number c.numbers.result.now inside c.numbers.ensures c.requires.found

pub loop-ring-preserved : goal.loop-ring-preserved
loop-ring-preserved g c =
    let taken = c.loop-ring.invariant.0 ∙ c.in-Some.ensures.steps.0 in
    let inside = cycle_inside c.args.edges.list.now c.args.cycles.now c.args.rings.items c.loop-ring.number c.in-Some.ring c.next.new.self.rest.items c.requires.cut taken in
    let n = c.write_ring.auto.shells ∙ ap length c.deref_mut.ensures.value in
    let placed = rw c.deref_mut.ensures.value at c.in_ok-write_ring.ensures.placed in
    rw (with_items_is c.loop-ring.shells c.write_ring.new.shells (n ∙ sym c.loop-ring.shells.ok.0)) (
      (taken_next c.args.rings.items c.loop-ring.number c.in-Some.ring c.next.new.self.rest.items taken).2,
      one_written c.args.edges.list.now c.args.cycles.now c.loop-ring.number c.numbers.result.now _ _ inside (sym c.numbers.ensures) c.in_ok-write_ring.ensures.written c.loop-ring.invariant.1,
      n ∙ c.loop-ring.invariant.2,
      (λ noded grounded. next_filled c.args.edges.list.now (closes_of c.args.edges.closes) noded c.args.cycles.now c.requires.rings grounded c.requires.its_edges c.requires.cycles c.loop-ring.number c.numbers.result.now _ _ _ _ inside c.numbers.ensures
          placed (c.loop-ring.invariant.3 noded grounded)),
    )

pub returns-clause-edges : goal.returns-clause-edges
returns-clause-edges g c = let end = all_taken c.args.edges.list.now c.args.cycles.now c.args.rings.items c.loop-ring.ring-iterator.rest.items c.loop-ring.number c.requires.cut c.loop-ring.invariant.0 (omega (arith, c.in-None.ensures.steps.0, c.loop-ring.ring-iterator.rest.ok.0)) in
    all_written c.args.edges.list.now c.args.cycles.now c.loop-ring.number _ c.requires.rings end c.loop-ring.invariant.1

pub returns-clause-sound : goal.returns-clause-sound
returns-clause-sound g c = c.loop-ring.invariant.1.sound

pub returns-clause-written : goal.returns-clause-written
returns-clause-written g c = λ noded grounded. let end = all_taken c.args.edges.list.now c.args.cycles.now c.args.rings.items c.loop-ring.ring-iterator.rest.items c.loop-ring.number c.requires.cut c.loop-ring.invariant.0 (omega (arith, c.in-None.ensures.steps.0, c.loop-ring.ring-iterator.rest.ok.0)) in
    all_filled c.args.edges.list.now c.args.cycles.now c.loop-ring.number (kept_by c.args.ring_at.now c.loop-ring.shells.items) c.loop-ring.written.items c.requires.rings end
    (all_written c.args.edges.list.now c.args.cycles.now c.loop-ring.number _ c.requires.rings end c.loop-ring.invariant.1) c.loop-ring.invariant.1.sound (c.loop-ring.invariant.3 noded grounded)
