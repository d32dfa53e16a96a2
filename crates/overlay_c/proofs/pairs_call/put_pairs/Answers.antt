use Rattle.std.proofs.Common.{ℕ, List, subst}
use Rattle.overlay_c.specs.Columns.{HoldsItems}
use Rattle.overlay_c.specs.Pairs.{PairLists, pair_lists_of}
use Rattle.overlay_c.proofs.PairsTelling.{put_whole}
use Rattle.overlay_c.proofs.pairs_call.put_pairs.Goals as goal

pub returns : goal.returns
returns c =
    let before : PairLists = record { lists = record { coordinates = c.args.coordinates.now; rings = c.args.rings.now; polygons = c.args.polygons.now }; features = c.args.features.now } in
    let after : PairLists = record {
      lists = record { coordinates = c.put_columns-answer.new.coordinates; rings = c.put_columns-answer.new.rings; polygons = c.put_columns-answer.new.polygons };
      features = c.put.new.room;
    } in
    put_whole (pair_lists_of c.args.pairs.now) before after c.put_columns-answer.result c.put_columns-answer.ensures c.if-answer-ne-ANSWERED.false
    (subst (λ (fs : List ℕ). HoldsItems fs c.args.features.now c.put.new.room) c.deref.ensures.value c.put.ensures)
