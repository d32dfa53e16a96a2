use Rattle.std.proofs.Common.{arith, length}
use Rattle.hands.specs.Consecutive.{ArePartsOf}
use Rattle.engine.proofs.Extents.{HoldsRange, all_segments, more_segments, no_segments}
use Rattle.results.proofs.Folds.{folded, inside, one_on}
use Rattle.engine.proofs.cell_parts.extent_in_parts.Goals as goal

pub map_parts-requires-after_bounds : goal.map_parts-requires-after_bounds
map_parts-requires-after_bounds g c κs within =
    let ps = c.deref.result.now in
    let parts : ArePartsOf 0 (length c.args.segments.now) ps = rw c.deref.ensures.value c.in_ok-parts.ensures in
    λ k d below. let each = inside (length c.args.segments.now) ps parts k d below in (each.0, each.1, c.requires)

pub loop-next-init : goal.loop-next-init
loop-next-init g c = record {
  at = 0;
  known = no_segments c.args.segments.now c.of_none-extent.result.bounds c.of_none-extent.ensures;
  parts = c.deref.result.now;
  are_parts = rw c.deref.ensures.value c.in_ok-parts.ensures;
  gave = rw c.into_iter-next-iterator.ensures.into_iter_gives.0 c.in_ok-extents.ensures;
}

pub loop-next-preserved : goal.loop-next-preserved
loop-next-preserved g c =
    let segments = c.args.segments.now in
    one_on (λ at. HoldsRange segments 0 at c.loop-next.extent.bounds) (λ p e. HoldsRange segments p.from p.past e.bounds) (length segments) (λ at. HoldsRange segments 0 at c.and-extent.result.bounds) c.in-Some.next c.next.new.self.rest.items
    (more_segments segments c.loop-next.extent.bounds c.in-Some.next.bounds c.and-extent.result.bounds c.and-extent.ensures.in_limit c.and-extent.ensures.holds)
    (rw c.in-Some.ensures.steps.0 at c.loop-next.invariant)

pub returns-clause-in_limit : goal.returns-clause-in_limit
returns-clause-in_limit g c =
    let segments = c.args.segments.now in
    (folded (λ at. HoldsRange segments 0 at c.loop-next.extent.bounds) (λ p e. HoldsRange segments p.from p.past e.bounds) (length segments) c.loop-next.next-iterator.rest.items (omega (arith, c.in-None.ensures.steps.0, c.loop-next.next-iterator.rest.ok.0)) c.loop-next.invariant).0

pub returns-clause-holds : goal.returns-clause-holds
returns-clause-holds g c =
    let segments = c.args.segments.now in
    (all_segments segments c.loop-next.extent.bounds
    (folded (λ at. HoldsRange segments 0 at c.loop-next.extent.bounds) (λ p e. HoldsRange segments p.from p.past e.bounds) (length segments) c.loop-next.next-iterator.rest.items (omega (arith, c.in-None.ensures.steps.0, c.loop-next.next-iterator.rest.ok.0)) c.loop-next.invariant)).1
