use Rattle.std.proofs.Common.{◌≡◌, ◌++◌, ◌+◌, drop}
use Rattle.std.specs.Prelude.{sum_by}
use Rattle.faces_text.specs.Text.{fields_text}
use Rattle.faces_text.proofs.row.push_fields.Given as goal

abbrev pub invariant-loop-count : goal.invariant-loop-count
invariant-loop-count g l = record {
  text_is : l.text.items ++ fields_text l.first (drop l.count-index l.counts) l.features ≡ l.fn.text.items ++ fields_text 0 l.counts l.features;
  counted : l.first + sum_by (λ c. c) (drop l.count-index l.counts) ≡ sum_by (λ c. c) l.counts;
}
