use Rattle.std.proofs.Common.{◌≡◌, ◌≤◌, ◌+◌, ◌-◌, ◌∷◌, ◌++◌, ℕ, ◌<◌, ◌∙◌, List, ap, sym, length, map, refl, subst, suc, take, arith}
use Rattle.std.specs.Prelude.{slice_index_or}
use Rattle.std.specs.Fmt.{decimal}
use Rattle.std.proofs.lemmas.List.{take_all}
use Rattle.faces_text.specs.Text.{numbers_text}
use Rattle.faces_text.proofs.Fields.{number_more}
use Rattle.faces_text.proofs.row.push_numbers.Goals as goal

pub number_of-requires-in-loop-feature : goal.number_of-requires-in-loop-feature
number_of-requires-in-loop-feature g c =
    let whole : c.args.features.now ≡ c.in-Some.feature.now ∷ c.in-Some.rest.now = c.in-Some.ensures.cases.0 in
    let i = c.loop-feature.feature-index in
    subst (λ (xs : List ℕ). (k : ℕ) → (d : ℕ) → k < length xs → c.args.first ≤ slice_index_or xs k d) whole c.requires (suc i) 0 (let t = c.loop-feature-test.true in omega arith)

pub loop-feature-preserved : goal.loop-feature-preserved
loop-feature-preserved g c =
    let whole : c.args.features.now ≡ c.in-Some.feature.now ∷ c.in-Some.rest.now = c.in-Some.ensures.cases.0 in
    let rest = c.in-Some.rest.now in
    let i = c.loop-feature.feature-index in
    let number = λ (f : ℕ). suc (f - c.args.first) in
    let text = λ (j : ℕ) (xs : List ℕ). c.args.text.now.items ++ numbers_text (map number (take (suc j) xs)) in
    let next = c.push_number-in-loop-feature.new.text.items in
    subst (λ (xs : List ℕ). next ≡ text (i + 1) xs) (sym whole)
    (number_more number c.in-Some.feature.now rest i 0 (slice_index_or rest i 0) c.args.text.now.items c.loop-feature.text.items c.push.new.self.items next
    c.loop-feature-test.true refl (subst (λ (xs : List ℕ). c.loop-feature.text.items ≡ text i xs) whole c.loop-feature.invariant) c.in_ok-push.ensures.items
    (c.in_ok-push_number-2.ensures ∙ ap (λ (n : ℕ). c.push.new.self.items ++ decimal n) c.number_of-in-loop-feature.ensures))

pub returns : goal.returns
returns g c =
    let i = c.loop-feature.feature-index in
    let number = λ (f : ℕ). suc (f - c.args.first) in
    let end : length c.args.features.now ≤ suc i = (let t = c.loop-feature-test.false in let l = c.in-Some.ensures.cases.1 in omega arith) in
    c.loop-feature.invariant ∙ ap (λ (xs : List ℕ). c.args.text.now.items ++ numbers_text (map number xs)) (take_all (suc i) c.args.features.now end)
