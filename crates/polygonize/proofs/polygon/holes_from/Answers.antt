use Rattle.std.proofs.Common.{◌∙◌, ap, arith, sym}
use Rattle.std.proofs.lemmas.Grind.{common_steps}
use Rattle.polygonize.specs.Placed.{stands_as_hole}
use Rattle.polygonize.proofs.TextOrder.Grouping.{one_hole}
use Rattle.polygonize.proofs.polygon.holes_from.Goals as goal

pub loop-end-preserved : goal.loop-end-preserved
loop-end-preserved g c = (
  grind (arith, common_steps),
  grind (arith, common_steps),
  grind (arith, common_steps),
  one_hole stands_as_hole c.args.written.now c.args.start _ _ c.loop-end.end c.index-written-end.result c.loop-end.invariant.0 c.loop-end-test.true (ap stands_as_hole (sym c.index-written-end.is) ∙ ap (λ p. p.is_hole) (sym c.place.ensures) ∙ c.if-place.true) c.in_ok-push.ensures.len c.loop-end.invariant.3,
)

pub simple_ring-requires : goal.simple_ring-requires
simple_ring-requires g c = rw (c.numbers.ensures ∙ c.ring.ensures, c.index-written-end-in-loop-end.is) (c.requires.sound c.loop-end.end c.index-written-end-in-loop-end.result c.loop-end-test.true)
