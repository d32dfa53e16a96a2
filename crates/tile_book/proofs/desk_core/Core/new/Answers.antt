use Rattle.std.proofs.Common.{◌≡◌, ℕ, Bool, false, List, replicate, rules, sym, subst}
use Rattle.tile_book.specs.Machine.{IsSound}
use Rattle.tile_book.proofs.Trues.{starts}
use Rattle.tile_book.proofs.desk_core.Core.new.Goals as goal

pub invariant_of-result : goal.invariant_of-result
invariant_of-result g c =
    let n = c.args.limit in
    let spent : c.in_ok-spent.spent.items ≡ replicate c.args.hands false = search rules in
    let held : c.in_ok-held.held.items ≡ replicate n false = search rules in (
      subst (λ (p : List Bool × List Bool × List ℕ). IsSound record { limit = n; word = 0; spent = p.0; held = p.1; accepted = p.2 })
          (λ i. (sym spent i, sym held i, sym c.in_ok-accepted.ensures.items i))
          (starts n c.args.hands c.requires.limit c.requires.hands),
      search rules,
    )
