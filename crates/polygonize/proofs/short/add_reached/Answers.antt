use Rattle.std.proofs.Common.{subst, ℕ}
use Rattle.polygonize.proofs.EdgesBelow.Searching.{AreNearerBut, but_added, but_none}
use Rattle.polygonize.proofs.short.add_reached.Goals as goal

pub loop-left-preserved-then-lane-saturating_sub : goal.loop-left-preserved-then-lane-saturating_sub
loop-left-preserved-then-lane-saturating_sub c =
    let (lane, rest) = c.split_first-lane.result in (
      but_added c.args.edges.list.now c.args.vertices.now c.args.number c.args.at c.args.past c.args.best.now c.loop-left.best c.loop-left.left rest lane c.add_at.new.best
          c.split_first-lane.ensures.others c.add_at.ensures.nearer c.loop-left.invariant.0,
      c.add_at.ensures.floors,
    )

pub returns-clause-nearer : goal.returns-clause-nearer
returns-clause-nearer c =
    let but = AreNearerBut c.args.edges.list.now c.args.vertices.now c.args.number c.args.at c.args.past in
    but_none c.args.edges.list.now c.args.vertices.now c.args.number c.args.at c.args.past c.args.best.now c.loop-left.best
    (subst (λ (n : ℕ). but n c.args.best.now c.loop-left.best) c.loop-left-test.false c.loop-left.invariant.0)
