use Rattle.std.proofs.Common.{arith, refl}
use Rattle.std.specs.Prelude.{slice_index_or}
use Rattle.std.proofs.lemmas.List.Sums.{sum_by-drop_more}
use Rattle.faces_text.proofs.Fields.{all_from_first, field_more}
use Rattle.faces_text.proofs.row.push_fields.Goals as goal

pub push_numbers-requires : goal.push_numbers-requires
push_numbers-requires g c = all_from_first c.loop-count.first _ c.args.features.now c.of_layer.result.now c.of_layer.ensures

pub loop-count-preserved : goal.loop-count-preserved
loop-count-preserved g c =
    let counts = c.args.counts.now in
    let i = c.loop-count.count-index in
    record {
      text_is = field_more counts i 0 c.loop-count.first (slice_index_or counts i 0) c.args.features.now c.of_layer.result.now c.loop-count.text.items c.push.new.self.items c.push_numbers.new.text.items _
          c.loop-count-test.true refl c.loop-count.invariant.text_is c.in_ok-push.ensures.items c.of_layer.ensures c.in_ok-push_numbers.ensures;
      counted = let s = sum_by-drop_more (λ c. c) counts i 0 c.loop-count-test.true in let o = c.loop-count.invariant.counted in omega arith;
    }
