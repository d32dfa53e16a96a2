use Rattle.std.proofs.Common.{sym, ◌∙◌}
use Rattle.geom.proofs.Points.{and_both, same_point_true}
use Rattle.chain_gather.proofs.OwnLaws.{own_by_candidates, own_by_rect}
use Rattle.chain_gather.proofs.own.is_own.Goals as goal

pub returns-then-eq : goal.returns-then-eq
returns-then-eq g c =
    let piece = c.args.piece.now in
    let rect = c.rect.result in
    let same = and_both _ _ (sym c.eq.ensures ∙ c.if-eq.true) in
    own_by_candidates c.args.grid.now c.args.segments.now c.args.tile piece rect c.rect.ensures.exact c.args.numbers.now c.deref.result.now c.are_candidates.result c.requires.candidates
    (same_point_true piece.tile.lo rect.lo same.0) (same_point_true piece.tile.hi rect.hi same.1) c.deref.ensures.value c.are_candidates.ensures

pub returns-else-eq : goal.returns-else-eq
returns-else-eq g c = own_by_rect c.args.grid.now c.args.segments.now c.args.tile c.args.piece.now c.rect.result c.rect.ensures.exact c.eq.result c.eq.ensures c.if-eq.false
