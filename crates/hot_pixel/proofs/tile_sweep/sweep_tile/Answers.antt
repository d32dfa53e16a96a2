use Rattle.std.proofs.Common.{◌≤◌, ◌+◌, List, subst, sym, arith}
use Rattle.std.specs.Prelude.{All}
use Rattle.std.proofs.lemmas.List.Elements.{All-contains}
use Rattle.geom.specs.declared.edge.Edge.{Edge}
use Rattle.geom.specs.declared.segment.Seg.{Seg}
use Rattle.geom.specs.Limit.{AreInLimit}
use Rattle.hot_region.specs.Candidates.{chosen}
use Rattle.hot_region.specs.Lines.{HasAllCrossed}
use Rattle.hot_pixel.specs.Pairs.{line_pairs}
use Rattle.hot_pixel.specs.SegmentLines.{HasEnds}
use Rattle.hot_region.proofs.CandidateLaws.{all_chosen}
use Rattle.hot_pixel.proofs.SweepLaws.{found_hot, lines_limit}
use Rattle.hot_pixel.proofs.tile_sweep.sweep_tile.Goals as goal

pub cross_lines-requires-clause-limits : goal.cross_lines-requires-clause-limits
cross_lines-requires-clause-limits g c = subst (λ (es : List Edge). All (λ e. AreInLimit e.p e.q) es) (sym c.deref-2.ensures.value)
    (lines_limit (chosen c.args.segments.now c.args.numbers.now) c.in_ok-list.list.items
    (all_chosen (λ s. AreInLimit s.a s.b) c.args.segments.now c.args.numbers.now (λ s h. All-contains (λ (t : Seg). AreInLimit t.a t.b) c.args.segments.now s c.requires.limits h)) c.in_ok-list.ensures.lines)

pub returns-clause-hot : goal.returns-clause-hot
returns-clause-hot g c =
    let lines = c.in_ok-list.list.items in
    let ends = subst (λ (es : List Edge). HasEnds c.args.tile.now es c.in_ok-found.found.items) c.deref.ensures.value c.in_ok-found.ensures in
    let crossed = subst (λ (es : List Edge). HasAllCrossed c.args.tile.now es c.in_ok-found.found.items c.cross_lines.new.found.items) c.deref-2.ensures.value c.in_ok-cross_lines.ensures.crossed in
    let hot = found_hot c.args.tile.now (chosen c.args.segments.now c.args.numbers.now) lines c.in_ok-found.found.items c.cross_lines.new.found.items c.in_ok-list.ensures.lines ends crossed in
    record {
      ascending = c.ascending.ensures.order;
      exact = λ p. ((λ h. (hot p).0 ((c.ascending.ensures.same p).0 h)), (λ h. (c.ascending.ensures.same p).1 ((hot p).1 h)));
    }

pub returns-clause-cost : goal.returns-clause-cost
returns-clause-cost g c = let a = subst (λ (es : List Edge). c.cross_lines.new.count ≤ c.args.count.now + line_pairs es) c.deref-2.ensures.value c.cross_lines.ensures.cost in let b = c.in_ok-list.ensures.pairs in omega arith
