use Rattle.std.proofs.Common.{◌≡◌, ◌<◌, None, slice_index_or, length, length-append, [], ◌∷◌, rules, arith, sym, ap, ◌∙◌, subst}
use Rattle.tile_book.specs.Books.{BookView, IsReplay}
use Rattle.std.proofs.Common.{ℕ, List, IsSome}
use Rattle.std.proofs.lemmas.Grind.{common_steps}
use Rattle.tile_book.specs.declared.desk_core.Reply.TheVariants as reply
use Rattle.tile_book.specs.Calls.{PostsLegally}
use Rattle.tile_book.proofs.Posts.{pieces_lt, posted}
use Rattle.tile_book.proofs.Calls.{posts_new, posts_stranger, posts_double}
use Rattle.tile_book.proofs.book.Book.post.Goals as goal

pub push_reserved-requires : goal.push_reserved-requires
push_reserved-requires g c =
    let i = c.self.invariant in
    let free : slice_index_or c.self.inside.held.items c.number-number.result None ≡ None = search rules in
    let lt : c.number-number.result < c.self.inside.limit = c.if-number-self.false in
    omega (arith, pieces_lt c.self.inside.held.items c.number-number.result (omega (arith, i.0.places)) free, i.0.count, i.0.places, i.2)

pub invariant_of-self : goal.invariant_of-self
invariant_of-self g c =
    let i = c.self.invariant in
    let k = c.number-number.result in
    let free : slice_index_or c.self.inside.held.items k None ≡ None = search rules in
    let lt : k < c.self.inside.limit = c.if-number-self.false in
    let b : BookView g.row.P.Denot = record { limit = c.self.inside.limit; held = c.self.inside.held.items; accepted = c.self.inside.accepted.items } in
    let next = posted g.P.Numbered.number_of b k c.args.piece i.0 lt free (sym c.number-number.ensures) in (
      rw c.push_reserved.ensures.items next,
      c.add.ensures.total ∙ omega (arith, i.1, ap length c.push_reserved.ensures.items, length-append c.self.inside.accepted.items (k ∷ [])),
      rw c.push_reserved.ensures.capacity i.2,
      i.3,
    )

pub returns-then-number-self-clause-legal : goal.returns-then-number-self-clause-legal
returns-then-number-self-clause-legal g c =
    let b : BookView g.row.P.Denot = c.args.self.now in
    posts_stranger g.P.Numbered.number_of b (g.P.Numbered.number_of c.args.piece) (search rules)

pub returns-then-is_some-clause-legal : goal.returns-then-is_some-clause-legal
returns-then-is_some-clause-legal g c =
    let b : BookView g.row.P.Denot = c.args.self.now in
    let k = g.P.Numbered.number_of c.args.piece in
    let kept : IsReplay g.P.Numbered.number_of b = subst (IsReplay g.P.Numbered.number_of) c.self.view_is c.self.invariant.0 in
    let some : IsSome (slice_index_or b.held k None) = grind (arith, common_steps) in
    let lt : k < b.limit = search rules in
    posts_double g.P.Numbered.number_of b k kept lt some

pub returns-clause-legal : goal.returns-clause-legal
returns-clause-legal g c =
    let k = c.number-number.result in
    let free : slice_index_or c.self.inside.held.items k None ≡ None = search rules in
    let lt : k < c.self.inside.limit = c.if-number-self.false in
    let b : BookView g.row.P.Denot = record { limit = c.self.inside.limit; held = c.self.inside.held.items; accepted = c.self.inside.accepted.items } in
    subst (λ (x : BookView g.row.P.Denot × ℕ × List ℕ). PostsLegally x.0.limit x.0.accepted x.2 x.1 reply.Ok) (λ j. (c.self.view_is j, c.number-number.ensures j, sym c.push_reserved.ensures.items j)) (posts_new g.P.Numbered.number_of b k c.self.invariant.0 lt free)
