use Rattle.std.proofs.Common.{◌≡◌, ℕ, None, replicate, rules, ap, ◌∙◌}
use Rattle.tile_book.proofs.Posts.{opened}
use Rattle.tile_book.proofs.desk.Desk.new.Goals as goal

pub invariant_of-book : goal.invariant_of-book
invariant_of-book g c =
    let full : c.loop.counter ≡ c.args.limit = search rules in (
      opened g.P.Numbered.number_of c.args.limit _ _ (c.loop.invariant ∙ ap (λ (n : ℕ). replicate n None) full) c.in_ok-accepted.ensures.items,
      search rules,
      search rules,
      c.requires.limit.0,
    )
