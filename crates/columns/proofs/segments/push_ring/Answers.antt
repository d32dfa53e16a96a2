use Rattle.std.proofs.Common.{◌+◌, ◌-◌, refl, sym, subst, arith}
use Rattle.geom.specs.Limit.{InLimit}
use Rattle.columns.specs.Layout.{points_of}
use Rattle.columns.proofs.RingWalks.{walk_more, walk_none}
use Rattle.columns.proofs.Sound.{inside_at}
use Rattle.columns.proofs.segments.push_ring.Goals as goal

pub loop-end-init : goal.loop-end-init
loop-end-init g c = record {
  added = walk_none c.args.layer (points_of c.args.points.now) c.args.from c.args.segments.now.items;
  in_limit = c.requires.in_limit;
}

pub push_step-requires-clause-from_in : goal.push_step-requires-clause-from_in
push_step-requires-clause-from_in g c =
    subst InLimit (sym (c.at.ensures c.at.result)) (inside_at InLimit (points_of c.args.points.now) c.args.from c.args.past (c.loop-end.end - 1) c.at.result c.requires.sound.inside (omega arith) (omega arith) c.requires.inside)

pub push_step-requires-clause-to_in : goal.push_step-requires-clause-to_in
push_step-requires-clause-to_in g c =
    subst InLimit (sym (c.at-in-loop-end.ensures c.at.result)) (inside_at InLimit (points_of c.args.points.now) c.args.from c.args.past c.loop-end.end c.at.result c.requires.sound.inside (omega arith) (omega arith) c.requires.inside)

pub loop-end-preserved : goal.loop-end-preserved
loop-end-preserved g c = record {
  added = walk_more c.args.layer (points_of c.args.points.now) c.args.from c.loop-end.end (c.loop-end.end + 1) c.at.result c.at-in-loop-end.result c.args.segments.now.items c.loop-end.segments.items c.push_step.new.segments.items
      (omega arith) (omega arith) refl c.at.ensures c.at-in-loop-end.ensures c.loop-end.invariant.added c.in_ok-push_step.ensures.added;
  in_limit = c.in_ok-push_step.ensures.in_limit;
}
