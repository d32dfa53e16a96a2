use Rattle.std.proofs.Common.{◌∙◌, ◌+◌, arith, sym, take, ℕ}
use Rattle.std.proofs.lemmas.List.{length-take, length-drop}
use Rattle.results.proofs.Sending.{marked_more, told_more}
use Rattle.results.proofs.sink.write_unsettled.Goals as goal

pub loop-at-preserved : goal.loop-at-preserved
loop-at-preserved g c = let h = c.in_ok-at.ensures in record {
  within = omega (arith, h.within, length-take {A = ℕ}, length-drop {A = ℕ});
  same_count = h.same_count ∙ c.loop-at.invariant.same_count;
  marked = h.unsettled ∙ sym (marked_more (g.S.Sink.state c.args.sink.now).settled (take (c.loop-at.at + c.in_ok-at.field-0) c.args.text.now) (omega (arith, h.some, h.within, length-take {A = ℕ}, length-drop {A = ℕ})));
  beginning_taken = told_more _ _ _ c.args.text.now c.loop-at.at c.in_ok-at.field-0 c.loop-at.invariant.beginning_taken h.bytes_taken;
}
