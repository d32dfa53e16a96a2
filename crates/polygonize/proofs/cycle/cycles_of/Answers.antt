use Rattle.std.proofs.Common.{◌∙◌, ap, length, sym}
use Rattle.std.proofs.lemmas.List.{with_items_is}
use Rattle.polygonize.proofs.NumberedCycles.{none_so_far, one_more_so_far, so_far_cycles, so_far_numbers, so_far_seen}
use Rattle.polygonize.proofs.cycle.cycles_of.Goals as goal
use Rattle.polygonize.proofs.cycle.cycles_of.Goals.{then-index-none+in_ok-number+in_ok-walk+in_ok-push, else-index-none}

pub loop-start-init : goal.loop-start-init
loop-start-init g c = rw (c.new-parts.ensures.items, c.in_ok-numbers.ensures.items, c.in_ok-cycle_at.ensures.items_if_clones_equal (λ y h. h), c.in_ok-none.ensures) (none_so_far c.args.next.now)

pub loop-start-preserved : goal.loop-start-preserved
loop-start-preserved g c =
    let next = c.args.next.now in
    let old = c.loop-start.cycle_at.items in
    let numbers = c.loop-start.numbers.items in
    let parts = c.loop-start.parts.items in
    elim c.if-index-none.branch [
      | then-index-none+in_ok-number+in_ok-walk+in_ok-push w ↦ (let n = w.walk.auto.cycle_at ∙ ap length w.deref_mut.ensures.value in
          let e = ap (λ v. v.items) w.cycle_at-is ∙ with_items_is c.loop-start.cycle_at w.walk.new.cycle_at (n ∙ sym c.loop-start.cycle_at.ok.0) in
          let walked = rw (w.deref_mut.ensures.value, w.in_ok-number.ensures ∙ w.len.ensures ∙ c.loop-start.parts.ok.0) at w.in_ok-walk.ensures in
          rw (e, w.numbers-is, w.parts-is, w.in_ok-push.ensures.items, w.len-from.ensures ∙ c.loop-start.numbers.ok.0, w.len-past.ensures ∙ w.walk.new.numbers.ok.0)
          (one_more_so_far next old c.loop-start.start numbers parts c.loop-start.invariant w.walk.new.cycle_at w.walk.new.numbers.items c.loop-start-test.true n walked))
      | else-index-none w ↦ rw (w.cycle_at-is, w.numbers-is, w.parts-is)
          (so_far_seen next old c.loop-start.start numbers parts c.loop-start.invariant c.index.result.now c.in_ok-none.none c.loop-start-test.true c.index.ensures c.in_ok-none.ensures w.if-index-none.false)
    ]

pub returns-clause-cycles : goal.returns-clause-cycles
returns-clause-cycles g c = so_far_cycles c.args.next.now c.loop-start.cycle_at.items c.loop-start.start c.loop-start.numbers.items c.loop-start.parts.items c.loop-start.invariant c.loop-start-test.false

pub returns-clause-numbers : goal.returns-clause-numbers
returns-clause-numbers g c = so_far_numbers c.args.next.now c.loop-start.cycle_at.items c.loop-start.start c.loop-start.numbers.items c.loop-start.parts.items c.loop-start.invariant c.loop-start.auto.start-end
