use Rattle.std.proofs.Common.{◌≡◌, ◌<◌, length, true, false, arith, rules, length-set}
use Rattle.std.specs.Prelude.{slice_index_or}
use Rattle.tile_book.proofs.Trues.{trues_le, trues_set}
use Rattle.tile_book.proofs.desk_core.Core.draw.Goals as goal

pub overflow_add-self-else-word-self : goal.overflow_add-self-else-word-self
overflow_add-self-else-word-self g c =
    let s = c.self.invariant.0 in
    record { fits = omega (arith, s.word, s.limit, s.hands, trues_le c.self.inside.spent.items) }

pub invariant_of-self-else-word-self : goal.invariant_of-self-else-word-self
invariant_of-self-else-word-self g c =
    let s = c.self.invariant.0 in
    let lt : c.args.hand < length c.self.inside.spent.items = search rules in
    let free : slice_index_or c.self.inside.spent.items c.args.hand false ≡ false = search rules in (
      record {
        limit = s.limit;
        hands = omega (arith, s.hands, length-set c.self.inside.spent.items c.args.hand true);
        word = omega (arith, s.word, trues_set c.self.inside.spent.items c.args.hand lt free);
        places = s.places;
        held = s.held;
        count = s.count;
      },
      c.self.invariant.1,
    )
