use Rattle.std.proofs.Common.{sym, ap, ◌∙◌}
use Rattle.tile_book.proofs.Calls.{told_by_desk}
use Rattle.tile_book.proofs.desk.Desk.post.Goals as goal

pub returns-clause-legal : goal.returns-clause-legal
returns-clause-legal g c =
    let size = ap (λ d. d.limit) c.self.view_is in
    told_by_desk g.P.Numbered.number_of c.args.self.now.limit c.args.piece _ _ _ _ c.post.result.1 (c.post.ensures.limit ∙ (sym c.self.invariant.2 ∙ size)) c.post.ensures.answer
