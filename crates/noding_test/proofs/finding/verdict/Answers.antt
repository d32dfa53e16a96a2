use Rattle.std.proofs.Common.{List, subst, sym, ◌∙◌}
use Rattle.std.specs.Prelude.{All, AllPairs}
use Rattle.geom.specs.declared.edge.Edge.{Edge}
use Rattle.geom.specs.EdgeOrder.{IsEdgeBefore}
use Rattle.geom.specs.Limit.{AreInLimit}
use Rattle.hot_region.specs.Rects.{IsIn}
use Rattle.noding_test.specs.Verdicts.{IsLeastPair, IsOwnBad}
use Rattle.noding_test.proofs.NearEdges.{chosen_ascend, chosen_limits, least_by, same_bad}
use Rattle.noding_test.proofs.finding.verdict.Goals as goal

pub near_edges-requires : goal.near_edges-requires
near_edges-requires g c = c.requires.near.below

pub least_bad-bad-requires-clause-ascending : goal.least_bad-bad-requires-clause-ascending
least_bad-bad-requires-clause-ascending g c = subst (AllPairs IsEdgeBefore) (sym (c.deref.ensures.value ∙ c.in_ok-edges.ensures)) (chosen_ascend c.args.counted.now c.args.numbers.now c.requires.ascending c.requires.near.ascending)

pub least_bad-bad-requires-clause-limits : goal.least_bad-bad-requires-clause-limits
least_bad-bad-requires-clause-limits g c = subst (λ (es : List Edge). All (λ e. AreInLimit e.p e.q) es) (sym (c.deref.ensures.value ∙ c.in_ok-edges.ensures)) (chosen_limits c.args.counted.now c.args.numbers.now c.requires.limits)

pub invariant_of-result : goal.invariant_of-result
invariant_of-result g c = record {
  exact = ∣ subst (λ (es : List Edge). IsLeastPair (IsOwnBad (IsIn c.rect-tile.result) es) c.least_bad-bad.result) c.deref.ensures.value c.least_bad-bad.ensures ∣₁;
}

pub returns-clause-bad : goal.returns-clause-bad
returns-clause-bad g c =
    let grid = c.args.grid.now in
    let counted = c.args.counted.now in
    let numbers = c.args.numbers.now in
    least_by _ _ c.least_bad-bad.result (same_bad grid c.args.number c.rect-tile.result counted numbers c.rect-tile.ensures.exact c.requires.near)
    (subst (λ (es : List Edge). IsLeastPair (IsOwnBad (IsIn c.rect-tile.result) es) c.least_bad-bad.result) (c.deref.ensures.value ∙ c.in_ok-edges.ensures) c.least_bad-bad.ensures)
