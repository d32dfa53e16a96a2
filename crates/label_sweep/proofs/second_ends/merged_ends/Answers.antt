use Rattle.std.proofs.Common.{arith, sym}
use Rattle.label_sweep.proofs.Merging.{IsStep, all_merged, fewer_left, more_merged, none_merged}
use Rattle.label_sweep.proofs.second_ends.merged_ends.Given.{Over}
use Rattle.label_sweep.proofs.second_ends.merged_ends.Goals as goal

pub loop-next-init : goal.loop-next-init
loop-next-init g c = none_merged c.args.own.now c.args.ends.now c.in_ok-points.points.items c.in_ok-endings.endings.items c.in_ok-points.ensures.items c.in_ok-endings.ensures.items

is_step : (g : Over) (c : goal.In_ok-push-2 g) → IsStep c.args.own.now c.args.ends.now c.loop-next.next c.loop-next.past c.next_vertex-v.result c.last_of-next.result c.last_end-past.result
is_step g c =
    let v = c.next_vertex-v.ensures in
    let next = c.last_of-next.ensures in
    let past = c.last_end-past.ensures in
    record {
      upto_end = v.end;
      upto_edge = v.edge;
      either = v.either;
      next_later = next.from;
      next_inside = next.within;
      begun = next.begun;
      edges_past = next.past c.requires.ascending;
      past_later = past.from;
      past_inside = past.within;
      ended = past.ended;
      others_past = past.past c.requires.sorted;
    }

pub loop-next-smaller : goal.loop-next-smaller
loop-next-smaller g c = fewer_left c.args.own.now c.args.ends.now c.loop-next.next c.loop-next.past c.next_vertex-v.result c.last_of-next.result c.last_end-past.result (is_step g c)

pub loop-next-preserved : goal.loop-next-preserved
loop-next-preserved g c =
    let l = c.loop-next in
    more_merged c.args.own.now c.args.ends.now l.points.items l.endings.items l.next l.past c.requires.ascending c.requires.sorted l.invariant
    c.next_vertex-v.result c.last_of-next.result c.last_end-past.result (is_step g c)
    c.push.new.self.items c.push-in-loop-next.new.self.items c.in_ok-push.ensures.items (rw (sym c.of.ensures) c.in_ok-push-2.ensures.items)

pub returns : goal.returns
returns g c = all_merged c.args.own.now c.args.ends.now c.loop-next.points.items c.loop-next.endings.items c.loop-next.next c.loop-next.past c.loop-next.invariant
    (omega (arith, c.if-next-own.false)) (omega (arith, c.if-past-ends.false))
