use Rattle.std.proofs.Common.{ℕ, ◌+◌, ◌≤◌, List, subst, sym, arith}
use Rattle.std.specs.Prelude.{All, count_by}
use Rattle.std.proofs.lemmas.List.{take_all}
use Rattle.geom.specs.declared.edge.Edge.{Edge}
use Rattle.geom.specs.Limit.{AreInLimit}
use Rattle.hot_region.specs.Lines.{HasCrossed, HasAllCrossed}
use Rattle.hot_pixel.specs.Pairs.{line_pairs, lines_meet}
use Rattle.hot_region.proofs.CrossingLaws.{all_none}
use Rattle.hot_pixel.proofs.SweepLaws.{active_none, active_more, all_more, ticks_more, kept_all, pairs_take}
use Rattle.hot_pixel.proofs.tile_sweep.cross_lines.Goals as goal

onward : {k m n : ℕ} → k ≤ m → m ≤ n → k ≤ n
onward {k} {m} {n} a b = omega arith

pub loop-line-init : goal.loop-line-init
loop-line-init g c = rw c.new-active.ensures.items (active_none c.args.lines.now, all_none c.args.tile.now c.args.found.now.items, omega arith, omega arith)

pub cross_all-requires-clause-others_in : goal.cross_all-requires-clause-others_in
cross_all-requires-clause-others_in g c =
    let kept = c.still_active-active.result.items in
    subst (λ (es : List Edge). All (λ e. AreInLimit e.p e.q) es) (sym c.deref.ensures.value)
    (kept_all c.args.lines.now c.loop-line.line-index c.line-item.result c.loop-line.active.items kept c.requires.ordered c.loop-line-test.true c.line-item.is c.loop-line.invariant.0 c.still_active-active.ensures (λ e. AreInLimit e.p e.q) c.requires.limits)

pub loop-line-preserved : goal.loop-line-preserved
loop-line-preserved g c =
    let lines = c.args.lines.now in
    let i = c.loop-line.line-index in
    let e = c.line-item.result in
    let active = c.loop-line.active.items in
    let kept = c.still_active-active.result.items in
    let cut = c.still_active-active.ensures in
    let inv = c.loop-line.invariant in
    let crossed = subst (λ (es : List Edge). HasCrossed c.args.tile.now e es c.loop-line.found.items c.cross_all.new.found.items) c.deref.ensures.value c.in_ok-cross_all.ensures.crossed in
    let cost = subst (λ (es : List Edge). c.cross_all.new.count ≤ c.loop-line.count + count_by (lines_meet e) es) c.deref.ensures.value c.cross_all.ensures.cost in
    rw c.in_ok-push.ensures.items (
      active_more lines i e active kept c.requires.ordered c.loop-line-test.true c.line-item.is inv.0 cut,
      all_more lines i e active kept c.requires.ordered c.loop-line-test.true c.line-item.is inv.0 cut c.args.tile.now c.args.found.now.items c.loop-line.found.items c.cross_all.new.found.items inv.1 crossed,
      ticks_more lines i e active kept c.requires.ordered c.loop-line-test.true c.line-item.is inv.0 cut c.args.count.now c.loop-line.count c.cross_all.new.count inv.2 cost,
      onward inv.3 c.cross_all.ensures.onward,
    )

pub returns-in_err-cross_all-clause-cost : goal.returns-in_err-cross_all-clause-cost
returns-in_err-cross_all-clause-cost g c =
    let lines = c.args.lines.now in
    let i = c.loop-line.line-index in
    let e = c.line-item.result in
    let kept = c.still_active-active.result.items in
    let cost = subst (λ (es : List Edge). c.cross_all.new.count ≤ c.loop-line.count + count_by (lines_meet e) es) c.deref.ensures.value c.cross_all.ensures.cost in
    let a = ticks_more lines i e c.loop-line.active.items kept c.requires.ordered c.loop-line-test.true c.line-item.is c.loop-line.invariant.0 c.still_active-active.ensures c.args.count.now c.loop-line.count c.cross_all.new.count c.loop-line.invariant.2 cost in
    let b = pairs_take (i + 1) lines in
    omega arith

pub returns-in_err-push-clause-cost : goal.returns-in_err-push-clause-cost
returns-in_err-push-clause-cost g c =
    let lines = c.args.lines.now in
    let i = c.loop-line.line-index in
    let e = c.line-item.result in
    let kept = c.still_active-active.result.items in
    let cost = subst (λ (es : List Edge). c.cross_all.new.count ≤ c.loop-line.count + count_by (lines_meet e) es) c.deref.ensures.value c.cross_all.ensures.cost in
    let a = ticks_more lines i e c.loop-line.active.items kept c.requires.ordered c.loop-line-test.true c.line-item.is c.loop-line.invariant.0 c.still_active-active.ensures c.args.count.now c.loop-line.count c.cross_all.new.count c.loop-line.invariant.2 cost in
    let b = pairs_take (i + 1) lines in
    omega arith

pub returns-clause-crossed : goal.returns-clause-crossed
returns-clause-crossed g c = subst (λ (es : List Edge). HasAllCrossed c.args.tile.now es c.args.found.now.items c.loop-line.found.items) (take_all c.loop-line.line-index c.args.lines.now c.loop-line-test.false) c.loop-line.invariant.1

pub returns-clause-cost : goal.returns-clause-cost
returns-clause-cost g c = subst (λ (es : List Edge). c.loop-line.count ≤ c.args.count.now + line_pairs es) (take_all c.loop-line.line-index c.args.lines.now c.loop-line-test.false) c.loop-line.invariant.2

pub returns-in_err-cross_all-clause-onward : goal.returns-in_err-cross_all-clause-onward
returns-in_err-cross_all-clause-onward g c = onward c.loop-line.invariant.3 c.cross_all.ensures.onward

pub returns-in_err-push-clause-onward : goal.returns-in_err-push-clause-onward
returns-in_err-push-clause-onward g c = onward c.loop-line.invariant.3 c.cross_all.ensures.onward

pub returns-clause-onward : goal.returns-clause-onward
returns-clause-onward g c = c.loop-line.invariant.3
