use Rattle.std.proofs.Common.{◌≡◌, ◌<◌, ◌∙◌, ap, arith, length, subst, sym, List, ℕ}
use Rattle.std.proofs.lemmas.List.{with_items_is}
use Rattle.polygonize.specs.CutRing.{AreCyclesCut, IsCycleCut}
use Rattle.polygonize.specs.Written.{ArePlaces}
use Rattle.polygonize.proofs.WrittenRings.Cuts.{none_cut, one_cut}
use Rattle.polygonize.proofs.WrittenRings.Writing.{of_cycle}
use Rattle.polygonize.proofs.cut_ring.cut_rings.Goals as goal

pub loop-number-init : goal.loop-number-init
loop-number-init g c = (sym c.in_ok-places.places.ok.0 ∙ c.in_ok-places.ensures.len, rw c.in_ok-rings.ensures.items (none_cut c.args.edges.list.now c.args.cycles.now c.args.from))

pub cut_ring-requires-clause-cycle : goal.cut_ring-requires-clause-cycle
cut_ring-requires-clause-cycle g c =
    let inside : c.loop-number.number < length c.args.cycles.now = omega (arith, c.loop-number-test.true, c.requires.inside) in
    of_cycle (ArePlaces c.args.edges.list.now) c.args.cycles.now c.loop-number.number c.numbers-cycle.result.now inside c.numbers-cycle.ensures c.requires.cycles.each

pub cut_ring-requires-clause-places : goal.cut_ring-requires-clause-places
cut_ring-requires-clause-places g c = ap length c.deref_mut.ensures.value ∙ c.loop-number.invariant.0

pub loop-number-preserved : goal.loop-number-preserved
loop-number-preserved g c =
    let n = c.cut_ring.auto.places ∙ ap length c.deref_mut.ensures.value in
    rw (with_items_is c.loop-number.places c.cut_ring.new.places (n ∙ sym c.loop-number.places.ok.0)) (
      n ∙ c.loop-number.invariant.0,
      rw c.in_ok-push.ensures.items (one_cut c.args.edges.list.now c.args.cycles.now c.args.from c.loop-number.number c.loop-number.rings.items c.in_ok-cut_ring.field-0
          (subst (λ (cycle : List ℕ). IsCycleCut c.args.edges.list.now cycle c.in_ok-cut_ring.field-0) c.numbers-cycle.ensures c.in_ok-cut_ring.ensures) c.loop-number.invariant.1),
    )

pub returns : goal.returns
returns g c =
    let past : c.loop-number.number ≡ c.args.past = omega (arith, c.loop-number-test.false, c.loop-number.auto.number-end c.requires.order) in
    subst (λ (n : ℕ). AreCyclesCut c.args.edges.list.now c.args.cycles.now c.args.from n c.loop-number.rings.items) past c.loop-number.invariant.1
