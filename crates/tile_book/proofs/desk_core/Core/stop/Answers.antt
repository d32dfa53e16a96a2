use Rattle.std.proofs.Common.{true, arith, length-set}
use Rattle.tile_book.proofs.Trues.{trues_more}
use Rattle.tile_book.proofs.desk_core.Core.stop.Goals as goal

pub invariant_of-self : goal.invariant_of-self
invariant_of-self g c =
    let s = c.self.invariant.0 in
    let bs = c.self.inside.spent.items in (
      record {
        limit = s.limit;
        hands = omega (arith, s.hands, length-set bs c.args.hand true);
        word = omega (arith, s.word, trues_more bs c.args.hand);
        places = s.places;
        held = s.held;
        count = s.count;
      },
      c.self.invariant.1,
    )
