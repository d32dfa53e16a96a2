use Rattle.std.proofs.Common.{◌∙◌, ap, length, map, sym}
use Rattle.std.proofs.lemmas.List.{take_all}
use Rattle.polygonize.specs.Next.{ring_of}
use Rattle.polygonize.specs.Placed.{points, stands_as_hole}
use Rattle.polygonize.proofs.TextOrder.Grouping.{in_range, one_group_more, one_polygon, shell_next}
use Rattle.polygonize.proofs.polygon.grouped.Goals as goal

pub loop-at-preserved : goal.loop-at-preserved
loop-at-preserved g c =
    let w = c.index-written-at.result in (
      in_range c.loop-at.at _ c.len.result (length c.args.written.now) c.len.ensures c.in_ok-holes.ensures.inside,
      one_polygon (points c.args.edges.now) c.args.written.now c.loop-at.at _ c.len.result c.loop-at.polygons.items c.push.new.self.items _ w c.loop-at-test.true
          (sym c.index-written-at.is) c.len.ensures c.in_ok-push.ensures.items (ap (λ p. p.shell) c.new.ensures ∙ c.in_ok-shell.ensures ∙ ap (ring_of c.args.edges.now) (c.numbers.ensures ∙ c.ring.ensures)) (ap (λ p. p.holes) c.new.ensures ∙ c.in_ok-holes.ensures.rings) c.loop-at.invariant.1,
      (λ b. one_group_more stands_as_hole (points c.args.edges.now) c.args.written.now c.loop-at.at _ c.len.result c.loop-at.polygons.items c.push.new.self.items _ w c.loop-at-test.true
          (sym c.index-written-at.is) c.len.ensures c.in_ok-push.ensures.items (ap (λ p. p.shell) c.new.ensures ∙ c.in_ok-shell.ensures ∙ ap (ring_of c.args.edges.now) (c.numbers.ensures ∙ c.ring.ensures)) (ap (λ p. p.holes) c.new.ensures ∙ c.in_ok-holes.ensures.rings) c.in_ok-holes.ensures.holes (c.loop-at.invariant.3 b) (c.loop-at.invariant.2 b)),
      (λ b. shell_next stands_as_hole c.args.written.now c.loop-at.at _ c.len.result c.len.ensures c.in_ok-holes.ensures.then_shell),
    )

pub simple_ring-requires : goal.simple_ring-requires
simple_ring-requires g c = rw (c.numbers.ensures ∙ c.ring.ensures, c.index-written-at.is) (c.requires.sound c.loop-at.at c.index-written-at.result c.loop-at-test.true)

pub returns-clause-rings : goal.returns-clause-rings
returns-clause-rings g c = c.loop-at.invariant.1 ∙ ap (map (points c.args.edges.now)) (take_all c.loop-at.at c.args.written.now c.loop-at-test.false)

pub returns-clause-groups : goal.returns-clause-groups
returns-clause-groups g c = λ b. rw (take_all c.loop-at.at c.args.written.now c.loop-at-test.false) at (c.loop-at.invariant.2 b)
