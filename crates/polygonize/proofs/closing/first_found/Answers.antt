use Rattle.std.proofs.Common.{◌≡◌, arith, length, refl}
use Rattle.std.proofs.lemmas.Bool.{false≢true}
use Rattle.polygonize.proofs.ClosedVertices.Found.{all_seen, closed_more, open_more}
use Rattle.polygonize.proofs.closing.first_found.Goals as goal

pub loop-from-preserved-then-not-closes_between : goal.loop-from-preserved-then-not-closes_between
loop-from-preserved-then-not-closes_between c = (
  c.past_vertex-past.ensures.inside,
  λ ds up all. rw c.lesser-found.ensures
      (open_more ds c.args.ends.now up all c.loop-from.from c.past_vertex-past.result c.loop-from.found (c.loop-from.invariant.1 ds up all) c.past_vertex-past.ensures (λ g. false≢true (c.if-not-closes_between.ensures.1 g)) c.least_place.result c.least_place.ensures),
)

pub loop-from-preserved : goal.loop-from-preserved
loop-from-preserved c = (
  c.past_vertex-past.ensures.inside,
  λ ds up all.
      closed_more ds c.args.ends.now up all c.loop-from.from c.past_vertex-past.result c.loop-from.found (c.loop-from.invariant.1 ds up all) c.past_vertex-past.ensures (c.if-not-closes_between.ensures.0 refl),
)

pub returns : goal.returns
returns c = λ ds up all. let low = c.loop-from.invariant.0 in let high = c.loop-from-test.false in let same : c.loop-from.from ≡ length c.args.ends.now = omega (arith, low, high) in
    all_seen ds c.args.ends.now up all c.loop-from.from high c.loop-from.found same (c.loop-from.invariant.1 ds up all)
