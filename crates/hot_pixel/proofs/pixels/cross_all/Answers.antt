use Rattle.std.proofs.Common.{ℕ, ◌+◌, ◌≤◌, arith, ◌≡◌, ◌∙◌, inl, refl, sym, true, Some}
use Rattle.hot_region.specs.Lines.{IsLine}
use Rattle.hot_pixel.specs.Pairs.{lines_meet}
use Rattle.hot_pixel.proofs.PairCounts.{meet_lines}
use Rattle.hot_region.proofs.CrossingLaws.{crossed_skip, crossed_push, pair_found, pair_none}
use Rattle.hot_pixel.proofs.SweepLaws.{pair_apart, cost_meets, cost_skips, cost_all}
use Rattle.hot_pixel.proofs.pixels.cross_all.Goals as goal
use Rattle.hot_pixel.proofs.pixels.cross_all.Goals.{then-may_meet+in-Some+in_ok-push_in, then-may_meet+in_default, else-may_meet}

ticked : {k m n : ℕ} → k ≤ m → n ≡ m + 1 → k ≤ n
ticked {k} {m} {n} a b = omega arith

pub loop-other-preserved : goal.loop-other-preserved
loop-other-preserved g c =
    let e = c.args.line.now in
    let f = c.other-item.result in
    let s = c.on_line-s.result in
    let t = c.on_line-t.result in
    let tile = c.args.tile.now in
    let others = c.args.others.now in
    let i = c.loop-other.other-index in
    let on_e : IsLine e s = inl (sym c.on_line-s.ensures.a, sym c.on_line-s.ensures.b) in
    let on_f : IsLine f t = inl (sym c.on_line-t.ensures.a, sym c.on_line-t.ensures.b) in
    let l = c.loop-other-test.true in
    let is = c.other-item.is in
    let inv = c.loop-other.invariant in
    elim c.if-may_meet.branch [
      | then-may_meet+in-Some+in_ok-push_in w ↦ rw (w.found-is, w.count-is) (
        (let p = pair_found e f s t on_e on_f (Some w.in-Some.pixel) w.in-Some.ensures w.in-Some.pixel refl in
            crossed_push tile e others i f c.args.found.now.items c.loop-other.found.items l is inv.0 w.push_in.new.found.items w.in-Some.pixel p.0 p.1 w.in_ok-push_in.ensures),
        (let m : lines_meet e f ≡ true = meet_lines e f s t on_e on_f ∙ sym c.may_meet.ensures.value ∙ w.if-may_meet.true in
            cost_meets e f others i c.args.count.now c.loop-other.count w.tick.new.self l is m inv.1 w.tick.ensures),
        ticked inv.2 w.tick.ensures,
      )
      | then-may_meet+in_default w ↦ rw (w.found-is, w.count-is) (
        crossed_skip tile e others i f c.args.found.now.items c.loop-other.found.items l is inv.0 (pair_none e f s t on_e on_f w.cross.result w.cross.ensures w.in_default.not-Some),
        (let m : lines_meet e f ≡ true = meet_lines e f s t on_e on_f ∙ sym c.may_meet.ensures.value ∙ w.if-may_meet.true in
            cost_meets e f others i c.args.count.now c.loop-other.count w.tick.new.self l is m inv.1 w.tick.ensures),
        ticked inv.2 w.tick.ensures,
      )
      | else-may_meet w ↦ rw (w.found-is, w.count-is) (
        crossed_skip tile e others i f c.args.found.now.items c.loop-other.found.items l is inv.0 (pair_apart e f s t on_e on_f c.may_meet.result c.may_meet.ensures.crossing w.if-may_meet.false),
        cost_skips e f others i c.args.count.now c.loop-other.count l is inv.1,
        inv.2,
      )
    ]

pub returns-in_err-push_in-clause-cost : goal.returns-in_err-push_in-clause-cost
returns-in_err-push_in-clause-cost g c =
    let e = c.args.line.now in
    let f = c.other-item.result in
    let s = c.on_line-s.result in
    let t = c.on_line-t.result in
    let others = c.args.others.now in
    let i = c.loop-other.other-index in
    let on_e : IsLine e s = inl (sym c.on_line-s.ensures.a, sym c.on_line-s.ensures.b) in
    let on_f : IsLine f t = inl (sym c.on_line-t.ensures.a, sym c.on_line-t.ensures.b) in
    let m : lines_meet e f ≡ true = meet_lines e f s t on_e on_f ∙ sym c.may_meet.ensures.value ∙ c.if-may_meet.true in
    cost_all e others _ c.args.count.now _ (cost_meets e f others i c.args.count.now c.loop-other.count c.tick.new.self c.loop-other-test.true c.other-item.is m c.loop-other.invariant.1 c.tick.ensures)
