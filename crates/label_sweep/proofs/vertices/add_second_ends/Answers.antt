use Rattle.std.proofs.Common.{arith, get_or, ◌-◌, ◌<◌, length}
use Rattle.std.specs.List.{Contains}
use Rattle.geom.specs.declared.edge.Counted.{Counted}
use Rattle.label_sweep.proofs.Ends.{are_ends, from_before, held_more, seconds_more}
use Rattle.label_sweep.proofs.vertices.add_second_ends.Goals as goal

pub loop-number-preserved : goal.loop-number-preserved
loop-number-preserved g c =
    let cs = c.args.counted.now in
    let n = c.loop-number.number - 1 in
    let one = c.index-counted-number.result in
    let two = c.index-counted-number-in-loop-number.result in
    let ends = c.loop-number.ends.items in
    let more = c.add_second_end.new.ends.items in
    let e = c.in_ok-add_second_end.ensures in
    let i = c.loop-number.invariant in
    let bound = i.0 in
    let h : n < length cs = omega (arith, c.loop-number-test.true, bound) in (
      omega (arith, bound),
      held_more ends more c.loop-number.held c.hold.new.held (get_or cs n two).edge.p e.kept i.1 (i.2 n two h) c.hold.ensures,
      (λ k d l. e.kept (get_or cs k d).edge.p (i.2 k d l)),
      from_before (λ (t : Counted). Contains more t.edge.q) cs n c.loop-number.number one (omega (arith, c.loop-number-test.true)) h c.index-counted-number.is e.added (λ k d l u. e.kept (get_or cs k d).edge.q (i.3 k d l u)),
      seconds_more cs ends more n one h c.index-counted-number.is i.4 e.only,
    )

pub returns : goal.returns
returns g c =
    let i = c.loop-number.invariant in
    are_ends c.args.counted.now c.loop-number.ends.items i.2 (λ k d l. i.3 k d (omega (arith, c.loop-number-test.false)) l) i.4
