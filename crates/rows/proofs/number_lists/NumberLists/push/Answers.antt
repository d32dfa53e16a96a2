use Rattle.std.proofs.Common.{◌≡◌, ◌∙◌, ◌++◌, ◌∷◌, [], ◌-◌, ℕ, List, ap, arith, length, map, rules, take}
use Rattle.std.proofs.lemmas.List.{take_all}
use Rattle.rows.proofs.Behind.{all_behind, offset_behind}
use Rattle.rows.proofs.number_lists.NumberLists.push.Goals as goal

pub returns : goal.returns
returns g c = λ lists h.
    let features = c.args.features.now in
    let old = c.args.self.now in
    let now = c.loop-feature.self in
    let inv = c.loop-feature.invariant in
    let list : List ℕ = map (λ f. f - c.args.first) features in
    let whole : take c.loop-feature.feature-index features ≡ features = take_all c.loop-feature.feature-index features c.loop-feature-test.false in
    let added : now.numbers.items ≡ old.numbers.items ++ list = inv.numbers ∙ ap (λ (fs : List ℕ). old.numbers.items ++ map (λ f. f - c.args.first) fs) whole in
    let past = c.in_ok-map_err.field-0 in
    let value : past ≡ c.len-past.result = search rules in
    let long : c.len-past.result ≡ length now.numbers.items = omega (arith, c.len-past.ensures, now.numbers.ok) in
    let all = all_behind lists list old.numbers.items now.numbers.items h.numbers added in
    record {
      numbers = all;
      offsets = offset_behind lists list now.numbers.items old.offsets.items c.push-2.new.self.items past all h.offsets (c.in_ok-push-2.ensures.items ∙ ap (λ v. v.items ++ past ∷ []) inv.offsets) (value ∙ long);
    }
