use Rattle.std.proofs.Common.{sym, ◌∙◌}
use Rattle.geom.proofs.Points.{and_both, same_point_true}
use Rattle.noding_test.proofs.OwnVerdicts.{own_by_edges, own_by_rect}
use Rattle.noding_test.proofs.own.is_own.Goals as goal

pub returns-then-eq : goal.returns-then-eq
returns-then-eq g c =
    let verdict = c.args.verdict.now in
    let rect = c.rect.result in
    let same = and_both _ _ (sym c.eq.ensures ∙ c.if-eq.true) in
    own_by_edges c.args.grid.now c.args.tile c.args.counted.now c.args.numbers.now verdict rect c.rect.ensures.exact c.deref.result.now c.are_near.result
    (same_point_true verdict.tile.lo rect.lo same.0) (same_point_true verdict.tile.hi rect.hi same.1) c.deref.ensures.value c.are_near.ensures

pub returns-else-eq : goal.returns-else-eq
returns-else-eq g c = own_by_rect c.args.grid.now c.args.tile c.args.counted.now c.args.numbers.now c.args.verdict.now c.rect.result c.rect.ensures.exact c.eq.result c.eq.ensures c.if-eq.false
