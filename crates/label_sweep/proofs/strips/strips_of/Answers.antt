use Rattle.std.proofs.Common.{◌<◌, [], refl, arith}
use Rattle.std.proofs.lemmas.Int.{clamps}
use Rattle.std.proofs.lemmas.List.Elements.{All-append, All-cons, All-nil}
use Rattle.hands.proofs.Consecutive.{no_parts, one_more, whole}
use Rattle.label_sweep.specs.Column.{IsStrip}
use Rattle.label_sweep.proofs.Between.{first_opens}
use Rattle.label_sweep.proofs.strips.strips_of.Goals as goal

pub loop-from-init : goal.loop-from-init
loop-from-init g c = rw (c.new-strips.ensures.items) (no_parts 0, All-nil (IsStrip c.args.counted.now), first_opens c.args.counted.now, omega arith)

pub loop-from-preserved : goal.loop-from-preserved
loop-from-preserved g c =
    let cs = c.args.counted.now in
    let from = c.loop-from.from in
    let past = c.column_end-past.result in
    let i = c.loop-from.invariant in
    let some = c.loop-from-test.true in
    let end = c.column_end-past.ensures in
    let further = end.past in
    let order : from < past = omega (arith, clamps, some, further) in
    rw (c.in_ok-push.ensures.items) (
      one_more 0 from (record { from = from; past = past }) c.loop-from.strips.items i.0 refl (omega (arith, order)),
      All-append (IsStrip cs) c.loop-from.strips.items _ i.1
          (All-cons (IsStrip cs) (record { from = from; past = past }) [] (record { order = omega (arith, order); within = end.within; column = i.2; next_column = end.column }) (All-nil (IsStrip cs))),
      end.column,
      end.within,
    )

pub returns : goal.returns
returns g c =
    let i = c.loop-from.invariant in
    let all = c.loop-from-test.false in
    let within = i.3 in
    record { parts = whole 0 c.loop-from.from _ c.loop-from.strips.items (omega (arith, all, within)) i.0; strips = i.1 }
