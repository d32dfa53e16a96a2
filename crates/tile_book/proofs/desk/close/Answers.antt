use Rattle.std.proofs.Common.{◌<◌, ℕ, IsSome, None, slice_index_or, arith, sym, ap, subst}
use Rattle.tile_book.specs.Books.{BookView}
use Rattle.tile_book.proofs.Posts.{full}
use Rattle.tile_book.proofs.desk.close.Goals as goal

pub returns-clause-full : goal.returns-clause-full
returns-clause-full g c =
    λ all.
    let a = c.audit.ensures in
    let b = c.into_inner-book.result in
    let size = ap (λ d. d.limit) c.desk.view_is in
    subst (λ (x : BookView g.row.P.Denot). (k : ℕ) → k < x.limit → IsSome (slice_index_or x.held k None)) (sym a.same)
    (full g.P.Numbered.number_of b a.replay (omega (arith, a.whole, c.merged-all.ensures.amount, all, a.limit, size, c.desk.invariant.2)))
