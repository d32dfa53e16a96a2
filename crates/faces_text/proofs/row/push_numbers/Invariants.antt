use Rattle.std.proofs.Common.{◌≡◌, ◌++◌, ◌-◌, map, suc, take}
use Rattle.faces_text.specs.Text.{numbers_text}
use Rattle.faces_text.proofs.row.push_numbers.Given as goal

abbrev pub invariant-loop-feature : goal.invariant-loop-feature
invariant-loop-feature g l = l.text.items ≡ l.fn.text.items ++ numbers_text (map (λ f. suc (f - l.first)) (take (suc l.feature-index) l.features))
