use Rattle.std.proofs.Common.{inl, inr, refl, arith}
use Rattle.phases.specs.Scattered.{lists_of}
use Rattle.phases.proofs.Scattering.{all_given, given_more, given_none}
use Rattle.phases.proofs.lines.add_line.Goals as goal

pub loop-strip-init : goal.loop-strip-init
loop-strip-init g c = (inr refl, given_none c.strip_at-first.result c.args.line (lists_of c.args.lists.now))

pub loop-strip-preserved : goal.loop-strip-preserved
loop-strip-preserved g c =
    (inl (let t = c.loop-strip-test.true in omega (arith, t)), given_more c.strip_at-first.result c.loop-strip.strip c.args.line (lists_of c.args.lists.now) c.loop-strip.lists c.index-lists-strip.result c.push.new.self (omega arith) (omega arith) c.in_ok-push.ensures.items c.loop-strip.invariant.1)

pub returns : goal.returns
returns g c = all_given c.args.cuts.now c.strip_at-first.result c.strip_at-last.result c.loop-strip.strip c.args.line (lists_of c.args.lists.now) (lists_of c.loop-strip.lists) c.strip_at-first.ensures.value c.strip_at-last.ensures.value (let t = c.loop-strip-test.false in omega (arith, t)) c.loop-strip.invariant.0 c.loop-strip.invariant.1
