use Rattle.std.proofs.Common.{subst}
use Rattle.tile_book.specs.Books.{BookView}
use Rattle.tile_book.specs.Calls.{HasHistory}
use Rattle.tile_book.proofs.Calls.{has_history}
use Rattle.tile_book.proofs.book.Book.accepted.Goals as goal

pub returns-clause-history : goal.returns-clause-history
returns-clause-history g c =
    let i = c.self.inside in
    let b : BookView g.row.P.Denot = record { limit = i.limit; held = i.held.items; accepted = i.accepted.items } in
    subst (λ (x : BookView g.row.P.Denot). HasHistory x.limit x.accepted) c.self.view_is (has_history g.P.Numbered.number_of b c.self.invariant.0)
